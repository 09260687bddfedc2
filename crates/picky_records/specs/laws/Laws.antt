-- What holds of every list of lines without conflict: the laws of a provider.
use Rattle.std.specs.Prelude.{◌≡◌, ◌≢◌, ◌&&◌, ℕ, true, false, not, List, [], ◌∷◌, Option, Some, None, IsTrue}
use Rattle.std.proofs.Common.{inl, inr, refl, sym, ap, subst, ◌∙◌, true≢false}
use Rattle.std.specs.Option.{option_and_then}
use Rattle.std.proofs.lemmas.Bool.{and_parts, not-true}
use Rattle.std.proofs.lemmas.Option.{none-some, same_Some, option_and_then_some}
use Rattle.picky_key_der.specs.declared.kind.PrivateKeyKind.{PrivateKeyKind}
use Rattle.picky_key_der.specs.declared.kind.PrivateKeyKind.TheVariants.{Rsa}
use Rattle.picky_key_der.specs.declared.public.PublicKeyKind.{PublicKeyKind}
use Rattle.picky_key_der.specs.Kinds.{kind_of, same_kind}
use Rattle.picky_key_der.specs.laws.Kinds.{same_kind_decides}
use Rattle.picky_key_private.specs.declared.private.PrivateKey.{PrivateKey}
use Rattle.picky_key_private.specs.Parts.{part_fits}
use Rattle.picky_key.specs.declared.algorithm.SignatureAlgorithm.{SignatureAlgorithm}
use Rattle.picky_key.specs.declared.provider.WrapScheme.{WrapScheme}
use Rattle.picky_key.specs.Family.{is_of_family}
use Rattle.picky_key.specs.SignatureForms.{is_signature_for}
use Rattle.picky_records.specs.declared.line.Line.{Line}
use Rattle.picky_records.specs.declared.line.Line.TheVariants.{Sig, Pair, Unwrap, Agree}
use Rattle.picky_records.specs.Lines.{first, or_else, agreeable, in_form, in_family, own_conflict, is_proper, no_conflicts, are_sound, AreSound, conflicts_with, signature_in, pair_in, unwrapped_in, secret_in, wrapped_in, ephemeral_in}
use Rattle.picky_records.specs.Meanings.{Has, signs_by, public_by, unwrap_by, agree_by, sign_by, wrap_by, ephemeral_by}
use Rattle.picky_records.specs.laws.Answers.{signature_is, pair_is, wrapped_is, unwrapped_of, secret_swap, secret_of, ephemeral_is, one_unwrapped, one_secret}

-- ---- lists of lines

-- the first answer is a line's
pub first_has : {Y : Type 0} (f : Line → Option Y) (ls : List Line) (y : Y) → first f ls ≡ Some y → (m : Line) × Has ls m × (f m ≡ Some y)
first_has f [] y h = absurd (none-some y h)
first_has {Y} f (l ∷ ls) y h = at (first_has f ls y) (f l) refl h
  where
    at : (first f ls ≡ Some y → (m : Line) × Has ls m × (f m ≡ Some y)) → (o : Option Y) → f l ≡ o → or_else o (first f ls) ≡ Some y
        → (m : Line) × Has (l ∷ ls) m × (f m ≡ Some y)
    at rest None is h = let p = rest h in (p.0, inr p.1, p.2)
    at rest (Some x) is h = (l, inl refl, is ∙ h)

-- what is asked of one line
pub record IsProper (line : Line) : Type 0 where
  pub form : in_form line ≡ true
  pub family : in_family line ≡ true
  pub own : own_conflict line ≡ false

proper_parts : (line : Line) → is_proper line ≡ true → IsProper line
proper_parts line h =
    let all = and_parts (in_form line) (in_family line && not (own_conflict line)) h in
    let rest = and_parts (in_family line) (not (own_conflict line)) all.1 in
    record { form = all.0; family = rest.0; own = not-true (own_conflict line) rest.1 }

sound_parts : (l : Line) (ls : List Line) → AreSound (l ∷ ls) → (is_proper l ≡ true) × ((no_conflicts l ls ≡ true) × AreSound ls)
sound_parts l ls sound =
    let all = and_parts (is_proper l) (no_conflicts l ls && are_sound ls) sound in
    (all.0, and_parts (no_conflicts l ls) (are_sound ls) all.1)

pub proper_at : (ls : List Line) (m : Line) → AreSound ls → Has ls m → IsProper m
proper_at [] m sound has = absurd has
proper_at (l ∷ ls) m sound (inl here) = subst (λ x. IsProper x) here (proper_parts l (sound_parts l ls sound).0)
proper_at (l ∷ ls) m sound (inr later) = proper_at ls m (sound_parts l ls sound).1.1 later

apart_at : (l : Line) (ls : List Line) (m : Line) → no_conflicts l ls ≡ true → Has ls m → conflicts_with l m ≡ false
apart_at l [] m none has = absurd has
apart_at l (x ∷ ls) m none (inl here) =
    subst (λ y. conflicts_with l y ≡ false) here (not-true (conflicts_with l x) (and_parts (not (conflicts_with l x)) (no_conflicts l ls) none).0)
apart_at l (x ∷ ls) m none (inr later) = apart_at l ls m (and_parts (not (conflicts_with l x)) (no_conflicts l ls) none).1 later

-- where a line answers y, and whatever doesn't conflict with it answers nothing else, the first answer is y
pub answer_of : {Y : Type 0} (g : Line → Option Y) (m : Line) (y : Y) → g m ≡ Some y → ((l : Line) → conflicts_with l m ≡ false → (z : Y) → g l ≡ Some z → z ≡ y)
    → (ls : List Line) → AreSound ls → Has ls m → first g ls ≡ Some y
answer_of g m y own apart [] sound has = absurd has
answer_of g m y own apart (l ∷ ls) sound (inl here) =
    let is : g l ≡ Some y = subst (λ x. g x ≡ Some y) (sym here) own in
    rw is
answer_of {Y} g m y own apart (l ∷ ls) sound (inr later) =
    let parts = (sound_parts l ls sound).1 in
    at (answer_of g m y own apart ls parts.1 later) parts.0 (g l) refl
  where
    at : first g ls ≡ Some y → no_conflicts l ls ≡ true → (o : Option Y) → g l ≡ o → or_else o (first g ls) ≡ Some y
    at rest none None is = rest
    at rest none (Some z) is = ap (λ (x : Y). Some x) (apart l (apart_at l ls m none later) z is)

-- ---- the laws

pub signs_in_family_lem : (ls : List Line) → AreSound ls → (k : PublicKeyKind) (a : SignatureAlgorithm) (m s : List ℕ) → signs_by ls k a m s → IsTrue (is_of_family a k)
signs_in_family_lem ls sound k a m s has = (proper_at ls (Sig k a m s) sound has).family

pub sign_signs_lem : (ls : List Line) (k : PrivateKey) (a : SignatureAlgorithm) (m s : List ℕ) → sign_by ls k a m ≡ Some s
    → (q : PublicKeyKind) × (public_by ls k ≡ Some q) × signs_by ls q a m s
sign_signs_lem ls k a m s h = option_and_then_some (λ q. first (signature_in q a m) ls) (public_by ls k) s h
    (λ q public found.
    let line = first_has (signature_in q a m) ls s found in
    (q, public, subst (λ l. Has ls l) (signature_is q a m s line.0 line.2) line.1))

pub sign_fits_lem : (ls : List Line) → AreSound ls → (k : PrivateKey) (a : SignatureAlgorithm) (m s : List ℕ) (q : PublicKeyKind) → sign_by ls k a m ≡ Some s
    → public_by ls k ≡ Some q → IsTrue (is_signature_for a q s)
sign_fits_lem ls sound k a m s q h public =
    let signed = sign_signs_lem ls k a m s h in
    let same : signed.0 ≡ q = same_Some signed.0 q (sym signed.1 ∙ public) in
    let has : Has ls (Sig q a m s) = subst (λ r. Has ls (Sig r a m s)) same signed.2 in
    (proper_at ls (Sig q a m s) sound has).form

pub own_part_lem : (ls : List Line) (k : PrivateKey) (q : PublicKeyKind) → k.public_part ≡ Some q → public_by ls k ≡ Some q
own_part_lem ls k q h = ap (λ o. or_else o (first (pair_in k) ls)) h

pub public_of_kind_lem : (ls : List Line) → AreSound ls → (k : PrivateKey) (q : PublicKeyKind) → public_by ls k ≡ Some q → kind_of q ≡ k.kind
public_of_kind_lem ls sound k q h = at k.public_part refl k.fits h
  where
    at : (o : Option PublicKeyKind) → k.public_part ≡ o → part_fits k.kind o ≡ true → or_else o (first (pair_in k) ls) ≡ Some q → kind_of q ≡ k.kind
    at (Some r) is own h =
        let same : r ≡ q = same_Some r q h in
        ap kind_of (sym same) ∙ (same_kind_decides (kind_of r) k.kind).0 own
    at None is own h =
        let line = first_has (pair_in k) ls q h in
        let has : Has ls (Pair k q) = subst (λ l. Has ls l) (pair_is k q line.0 line.2) line.1 in
        (same_kind_decides (kind_of q) k.kind).0 (proper_at ls (Pair k q) sound has).family

pub unwraps_lem : (ls : List Line) → AreSound ls → (k : PrivateKey) (q : PublicKeyKind) (t : WrapScheme) (seed c w : List ℕ) → public_by ls k ≡ Some q
    → wrap_by ls q t seed c ≡ Some w → unwrap_by ls k t w ≡ Some c
unwraps_lem ls sound k q t seed c w public h =
    let line = first_has (wrapped_in t q c) ls w h in
    let is = wrapped_is t q c w line.0 line.2 in
    let has : Has ls (Unwrap t is.0 w c) = subst (λ l. Has ls l) is.1 line.1 in
    let answer : first (unwrapped_in t q w) ls ≡ Some c =
    answer_of (unwrapped_in t q w) (Unwrap t is.0 w c) c (unwrapped_of t q w c is.0 is.2) (λ l apart d e. one_unwrapped t q w c d is.0 l is.2 apart e) ls sound has in
    ap (option_and_then (λ p. first (unwrapped_in t p w) ls)) public ∙ answer

pub agrees_lem : (ls : List Line) → AreSound ls → (k : PrivateKey) (r e : PublicKeyKind) (seed s : List ℕ) → public_by ls k ≡ Some r
    → ephemeral_by ls r seed ≡ Some (e, s) → agree_by ls k e ≡ Some s
agrees_lem ls sound k r e seed s public h =
    let line = first_has (ephemeral_in r) ls (e, s) h in
    let answer : first (secret_in r e) ls ≡ Some s = elim (ephemeral_is r e s line.0 line.2) [
      | inl is ↦ answer_of (secret_in r e) (Agree r e s) s (secret_of r e s) (λ l apart d x. one_secret r e s d l apart x) ls sound (subst (λ l. Has ls l) is line.1)
      | inr is ↦ answer_of (secret_in r e) (Agree e r s) s (secret_swap r e (Agree e r s) ∙ secret_of e r s)
          (λ l apart d x. one_secret e r s d l apart (secret_swap e r l ∙ x)) ls sound (subst (λ l. Has ls l) is line.1)
    ] in
    ap (option_and_then (λ q. first (secret_in q e) ls)) public ∙ answer

family : (ls : List Line) → AreSound ls → (a b : PublicKeyKind) (s : List ℕ) → Has ls (Agree a b s) → IsTrue (agreeable (kind_of a)) × (kind_of b ≡ kind_of a)
family ls sound a b s has =
    let both = and_parts (agreeable (kind_of a)) (same_kind (kind_of b) (kind_of a)) (proper_at ls (Agree a b s) sound has).family in
    (both.0, (same_kind_decides (kind_of b) (kind_of a)).0 both.1)

-- the other key of an `agree` line with the receiver is of its kind, whose keys agree
others : (ls : List Line) → AreSound ls → (r e : PublicKeyKind) (s : List ℕ) → first (ephemeral_in r) ls ≡ Some (e, s) → (kind_of e ≡ kind_of r) × IsTrue (agreeable (kind_of r))
others ls sound r e s h =
    let line = first_has (ephemeral_in r) ls (e, s) h in
    elim (ephemeral_is r e s line.0 line.2) [
      | inl is ↦ (let p = family ls sound r e s (subst (λ l. Has ls l) is line.1) in (p.1, p.0))
      | inr is ↦ (let p = family ls sound e r s (subst (λ l. Has ls l) is line.1) in (sym p.1, subst (λ (k : PrivateKeyKind). IsTrue (agreeable k)) (sym p.1) p.0))
    ]

pub ephemeral_kind_lem : (ls : List Line) → AreSound ls → (r e : PublicKeyKind) (seed s : List ℕ) → ephemeral_by ls r seed ≡ Some (e, s) → kind_of e ≡ kind_of r
ephemeral_kind_lem ls sound r e seed s h = (others ls sound r e s h).0

not_rsa : (k : PrivateKeyKind) → agreeable k ≡ true → k ≢ Rsa
not_rsa k h = λ e. true≢false (sym (subst (λ (x : PrivateKeyKind). agreeable x ≡ true) e h))

pub ephemeral_curve_lem : (ls : List Line) → AreSound ls → (r e : PublicKeyKind) (seed s : List ℕ) → ephemeral_by ls r seed ≡ Some (e, s) → kind_of r ≢ Rsa
ephemeral_curve_lem ls sound r e seed s h = not_rsa (kind_of r) (others ls sound r e s h).1
