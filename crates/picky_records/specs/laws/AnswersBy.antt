-- Sound lines answer as the words of `AnswersBy` say.
use Rattle.std.specs.Prelude.{◌≡◌, ◌⊎◌, ◌↔◌, ℕ, List, [], ◌∷◌, ◌++◌, Option, Some, None}
use Rattle.std.proofs.Common.{inl, inr, refl, sym, ap, subst, ◌∙◌}
use Rattle.std.specs.Option.{option_and_then}
use Rattle.std.proofs.lemmas.Option.{none-some, option_and_then_some}
use Rattle.picky_key_der.specs.declared.public.PublicKeyKind.{PublicKeyKind}
use Rattle.picky_key.specs.declared.algorithm.SignatureAlgorithm.{SignatureAlgorithm}
use Rattle.picky_key.specs.declared.provider.WrapScheme.{WrapScheme}
use Rattle.picky_key_private.specs.declared.private.PrivateKey.{PrivateKey}
use Rattle.picky_records.specs.declared.line.Line.{Line}
use Rattle.picky_records.specs.declared.line.Line.TheVariants.{Sig, Pair, Unwrap, Agree}
use Rattle.picky_records.specs.Lines.{first, or_else, AreSound, signature_in, pair_in, unwrapped_in, secret_in, wrapped_in, ephemeral_in}
use Rattle.picky_records.specs.Meanings.{Has, public_by}
use Rattle.picky_records.specs.laws.Answers.{signature_is, signature_of, pair_is, pair_of, one_pair, wrapped_is, wrapped_of, unwrapped_is, unwrapped_of, secret_is, secret_swap, secret_of, ephemeral_is, ephemeral_of_first, ephemeral_of_second, one_unwrapped, one_secret}
use Rattle.picky_records.specs.laws.Laws.{first_has, answer_of, own_part_lem}
use Rattle.picky_records.specs.Records.{IsFirst, IsUnwrapOf, IsAgreeOf, AnswersBy, provider_of}

-- ---- first answers

first_is : {Y : Type 0} (f : Line → Option Y) (P : Line → Y → Type 0) → ((l : Line) (y : Y) → f l ≡ Some y → P l y) → ((l : Line) (y : Y) → P l y → f l ≡ Some y)
    → (ls : List Line) (y : Y) → first f ls ≡ Some y → IsFirst P ls y
first_is f P to from [] y h = absurd (none-some y h)
first_is {Y} f P to from (l ∷ ls) y h = at (first_is f P to from ls y) (f l) refl h
  where
    at : (first f ls ≡ Some y → IsFirst P ls y) → (o : Option Y) → f l ≡ o → or_else o (first f ls) ≡ Some y → IsFirst P (l ∷ ls) y
    at rest (Some x) is h = record { front = []; line = l; back = ls; joined = refl; here = to l y (is ∙ h); none = λ m z has p. absurd has }
    at rest None is h =
        let r = rest h in
        record {
          front = l ∷ r.front;
          line = r.line;
          back = r.back;
          joined = ap (λ (x : List Line). l ∷ x) r.joined;
          here = r.here;
          none = λ m z has p. elim has [
            | inl e ↦ none-some z (sym is ∙ from l z (subst (λ x. P x z) (sym e) p))
            | inr later ↦ r.none m z later p
          ];
        }

first_by : {Y : Type 0} (f : Line → Option Y) (P : Line → Y → Type 0) → ((l : Line) (y : Y) → f l ≡ Some y → P l y) → ((l : Line) (y : Y) → P l y → f l ≡ Some y)
    → (front : List Line) (line : Line) (back : List Line) (y : Y) → P line y → ((l : Line) (z : Y) → Has front l → P l z → ⊥) → first f (front ++ line ∷ back) ≡ Some y
first_by f P to from [] line back y here none = ap (λ o. or_else o (first f back)) (from line y here)
first_by {Y} f P to from (l ∷ front) line back y here none = at (first_by f P to from front line back y here (λ m z has p. none m z (inr has) p)) (f l) refl
  where
    at : first f (front ++ line ∷ back) ≡ Some y → (o : Option Y) → f l ≡ o → or_else o (first f (front ++ line ∷ back)) ≡ Some y
    at rest None is = rest
    at rest (Some x) is = absurd (none l x (inl refl) (to l x is))

first_iff : {Y : Type 0} (f : Line → Option Y) (P : Line → Y → Type 0) → ((l : Line) (y : Y) → f l ≡ Some y → P l y) → ((l : Line) (y : Y) → P l y → f l ≡ Some y)
    → (ls : List Line) (y : Y) → (first f ls ≡ Some y) ↔ IsFirst P ls y
first_iff f P to from ls y = (
  first_is f P to from ls y,
  λ h. ap (λ (x : List Line). first f x) h.joined ∙ first_by f P to from h.front h.line h.back y h.here h.none,
)

-- ---- by the public key

by_key : {Y : Type 0} (f : PublicKeyKind → Option Y) (o : Option PublicKeyKind) (y : Y) (P : PublicKeyKind → Type 0) → ((q : PublicKeyKind) → (f q ≡ Some y) ↔ P q)
    → (option_and_then f o ≡ Some y) ↔ ((q : PublicKeyKind) × (o ≡ Some q) × P q)
by_key f o y P each = (
  λ h. option_and_then_some f o y h (λ q public found. (q, public, (each q).0 found)),
  λ h. ap (option_and_then f) h.1 ∙ (each h.0).1 h.2,
)

-- ---- each meaning

pair_iff : (ls : List Line) → AreSound ls → (k : PrivateKey) (q : PublicKeyKind) → k.public_part ≡ None → (public_by ls k ≡ Some q) ↔ Has ls (Pair k q)
pair_iff ls sound k q none =
    let own : public_by ls k ≡ first (pair_in k) ls = ap (λ o. or_else o (first (pair_in k) ls)) none in (
      λ h. let line = first_has (pair_in k) ls q (sym own ∙ h) in subst (λ l. Has ls l) (pair_is k q line.0 line.2) line.1,
      λ has. own ∙ answer_of (pair_in k) (Pair k q) q (pair_of k q) (λ l apart d e. one_pair k q d l apart e) ls sound has,
    )

unwrap_iff : (ls : List Line) → AreSound ls → (q : PublicKeyKind) (t : WrapScheme) (w c : List ℕ)
    → (first (unwrapped_in t q w) ls ≡ Some c) ↔ ((l : Line) × Has ls l × IsUnwrapOf q t w c l)
unwrap_iff ls sound q t w c = (
  λ h.
      let line = first_has (unwrapped_in t q w) ls c h in
      let p = unwrapped_is t q w c line.0 line.2 in
      (line.0, line.1, record { private = p.0; is = p.1; part = p.2 }),
  λ h.
      let p = h.2 in
      answer_of (unwrapped_in t q w) (Unwrap t p.private w c) c (unwrapped_of t q w c p.private p.part) (λ l apart d e. one_unwrapped t q w c d p.private l p.part apart e) ls sound
      (subst (λ l. Has ls l) p.is h.1),
)

agree_iff : (ls : List Line) → AreSound ls → (q peer : PublicKeyKind) (s : List ℕ)
    → (first (secret_in q peer) ls ≡ Some s) ↔ (Has ls (Agree q peer s) ⊎ Has ls (Agree peer q s))
agree_iff ls sound q peer s = (
  λ h.
      let line = first_has (secret_in q peer) ls s h in
      elim (secret_is q peer s line.0 line.2) [
        | inl is ↦ inl (subst (λ l. Has ls l) is line.1)
        | inr is ↦ inr (subst (λ l. Has ls l) is line.1)
      ],
  λ h. elim h [
    | inl has ↦ answer_of (secret_in q peer) (Agree q peer s) s (secret_of q peer s) (λ l apart d e. one_secret q peer s d l apart e) ls sound has
    | inr has ↦ answer_of (secret_in q peer) (Agree peer q s) s (secret_swap q peer (Agree peer q s) ∙ secret_of peer q s)
        (λ l apart d e. one_secret peer q s d l apart (secret_swap peer q l ∙ e)) ls sound has
  ],
)

sign_iff : (ls : List Line) (q : PublicKeyKind) (a : SignatureAlgorithm) (m s : List ℕ) → (first (signature_in q a m) ls ≡ Some s) ↔ IsFirst (λ l x. l ≡ Sig q a m x) ls s
sign_iff ls q a m s = first_iff (signature_in q a m) (λ l x. l ≡ Sig q a m x) (λ l x h. signature_is q a m x l h)
    (λ l x e. ap (signature_in q a m) e ∙ signature_of q a m x) ls s

wrap_iff : (ls : List Line) (q : PublicKeyKind) (t : WrapScheme) (c w : List ℕ) → (first (wrapped_in t q c) ls ≡ Some w) ↔ IsFirst (λ l x. IsUnwrapOf q t x c l) ls w
wrap_iff ls q t c w = first_iff (wrapped_in t q c) (λ l x. IsUnwrapOf q t x c l)
    (λ l x h. let p = wrapped_is t q c x l h in record { private = p.0; is = p.1; part = p.2 })
    (λ l x p. ap (wrapped_in t q c) p.is ∙ wrapped_of t q c x p.private p.part) ls w

ephemeral_iff : (ls : List Line) (r e : PublicKeyKind) (s : List ℕ) → (first (ephemeral_in r) ls ≡ Some (e, s)) ↔ IsFirst (IsAgreeOf r) ls (e, s)
ephemeral_iff ls r e s = first_iff (ephemeral_in r) (IsAgreeOf r) (λ l x h. ephemeral_is r x.0 x.1 l h)
    (λ l x h. elim h [
      | inl is ↦ ap (ephemeral_in r) is ∙ ephemeral_of_first r x.0 x.1
      | inr is ↦ ap (ephemeral_in r) is ∙ ephemeral_of_second r x.0 x.1
    ]) ls (e, s)

-- the provider of sound lines
pub answers_by : (ls : List Line) → AreSound ls → AnswersBy ls (provider_of ls)
answers_by ls sound = record {
  signs = λ k a m s. (λ h. h, λ h. h);
  own_part = own_part_lem ls;
  public_of = pair_iff ls sound;
  unwrap = λ k t w c. by_key (λ q. first (unwrapped_in t q w) ls) (public_by ls k) c (λ q. (l : Line) × Has ls l × IsUnwrapOf q t w c l) (λ q. unwrap_iff ls sound q t w c);
  agree = λ k peer s. by_key (λ q. first (secret_in q peer) ls) (public_by ls k) s (λ q. Has ls (Agree q peer s) ⊎ Has ls (Agree peer q s)) (λ q. agree_iff ls sound q peer s);
  sign_of = λ k a m s. by_key (λ q. first (signature_in q a m) ls) (public_by ls k) s (λ q. IsFirst (λ l x. l ≡ Sig q a m x) ls s) (λ q. sign_iff ls q a m s);
  wrap_of = λ q t seed c w. wrap_iff ls q t c w;
  ephemeral_of = λ r seed e s. ephemeral_iff ls r e s;
}
