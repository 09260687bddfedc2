-- What it means that a line answers, in terms of what the line is.
use Rattle.std.specs.Prelude.{◌≡◌, ◌⊎◌, ◌&&◌, ◌||◌, ℕ, Bool, true, false, List, Option, Some, None, cond}
use Rattle.std.proofs.Common.{inl, inr, refl, sym, ap, ◌∙◌}
use Rattle.std.proofs.lemmas.Bool.{and_parts, or_cases, not-false}
use Rattle.std.proofs.lemmas.Option.{cond_some, none-some, same_Some}
use Rattle.std.proofs.lemmas.Slice.Eq.{bytes_eq-Decides}
use Rattle.std.specs.Str.{bytes_eq}
use Rattle.picky_key_der.specs.declared.public.PublicKeyKind.{PublicKeyKind}
use Rattle.picky_key_der.specs.Kinds.{same_public}
use Rattle.picky_key_der.specs.laws.Kinds.{same_public_decides}
use Rattle.picky_key_private.specs.declared.private.PrivateKey.{PrivateKey}
use Rattle.picky_key_private.specs.Parts.{same_part}
use Rattle.picky_key_private.specs.Same.{same_private}
use Rattle.picky_key_private.specs.laws.Same.{same_part_decides, same_private_decides}
use Rattle.picky_key.specs.declared.algorithm.SignatureAlgorithm.{SignatureAlgorithm}
use Rattle.picky_key.specs.declared.provider.WrapScheme.{WrapScheme}
use Rattle.picky_records.specs.declared.line.Line.{Line}
use Rattle.picky_records.specs.declared.line.Line.TheVariants.{Sig, Pair, Unwrap, Agree}
use Rattle.picky_records.specs.Lines.{signature_in, pair_in, unwrapped_in, secret_in, wrapped_in, ephemeral_in, other_key, other_bytes, conflicts_with}
use Rattle.picky_records.specs.Same.{same_scheme, same_algorithm}
use Rattle.picky_records.specs.laws.Same.{same_scheme_decides, same_algorithm_decides}

-- ---- the tests hold of what is the same

key_same : (q : PublicKeyKind) → same_public q q ≡ true
key_same q = (same_public_decides q q).1 refl

scheme_same : (t : WrapScheme) → same_scheme t t ≡ true
scheme_same t = (same_scheme_decides t t).1 refl

bytes_same : (s : List ℕ) → bytes_eq s s ≡ true
bytes_same s = (bytes_eq-Decides s s).1 refl

-- ---- `sig` lines

pub signature_is : (q : PublicKeyKind) (a : SignatureAlgorithm) (m s : List ℕ) (l : Line) → signature_in q a m l ≡ Some s → l ≡ Sig q a m s
signature_is q a m s (Sig k b n t) h =
    let p = cond_some (same_public k q && (same_algorithm b a && bytes_eq n m)) t s h in
    let both = and_parts (same_public k q) (same_algorithm b a && bytes_eq n m) p.0 in
    let rest = and_parts (same_algorithm b a) (bytes_eq n m) both.1 in
    let key : k ≡ q = (same_public_decides k q).0 both.0 in
    let algorithm : b ≡ a = (same_algorithm_decides b a).0 rest.0 in
    let message : n ≡ m = (bytes_eq-Decides n m).0 rest.1 in
    let signature : t ≡ s = p.1 in
    cc
signature_is q a m s (Pair j r) h = absurd (none-some s h)
signature_is q a m s (Unwrap t j x c) h = absurd (none-some s h)
signature_is q a m s (Agree c d t) h = absurd (none-some s h)

pub signature_of : (q : PublicKeyKind) (a : SignatureAlgorithm) (m s : List ℕ) → signature_in q a m (Sig q a m s) ≡ Some s
signature_of q a m s = rw (key_same q, (same_algorithm_decides a a).1 refl, bytes_same m)

-- ---- `pair` lines

pub pair_is : (k : PrivateKey) (q : PublicKeyKind) (l : Line) → pair_in k l ≡ Some q → l ≡ Pair k q
pair_is k q (Pair j r) h =
    let p = cond_some (same_private j k) r q h in
    ap (λ (x : PrivateKey). Pair x r) ((same_private_decides j k).0 p.0) ∙ ap (λ (x : PublicKeyKind). Pair k x) p.1
pair_is k q (Sig r b n t) h = absurd (none-some q h)
pair_is k q (Unwrap t j x c) h = absurd (none-some q h)
pair_is k q (Agree c d t) h = absurd (none-some q h)

pub pair_of : (k : PrivateKey) (q : PublicKeyKind) → pair_in k (Pair k q) ≡ Some q
pair_of k q = ap (λ (b : Bool). cond {A = Option PublicKeyKind} b (Some q) None) ((same_private_decides k k).1 refl)

-- ---- `unwrap` lines

pub wrapped_is : (t : WrapScheme) (q : PublicKeyKind) (c w : List ℕ) (l : Line) → wrapped_in t q c l ≡ Some w
    → (j : PrivateKey) × (l ≡ Unwrap t j w c) × (j.public_part ≡ Some q)
wrapped_is t q c w (Unwrap u j x d) h =
    let p = cond_some (same_scheme u t && (same_part j.public_part (Some q) && bytes_eq d c)) x w h in
    let both = and_parts (same_scheme u t) (same_part j.public_part (Some q) && bytes_eq d c) p.0 in
    let rest = and_parts (same_part j.public_part (Some q)) (bytes_eq d c) both.1 in
    let scheme : u ≡ t = (same_scheme_decides u t).0 both.0 in
    let content : d ≡ c = (bytes_eq-Decides d c).0 rest.1 in
    let wrapped : x ≡ w = p.1 in
    (j, cc, (same_part_decides j.public_part (Some q)).0 rest.0)
wrapped_is t q c w (Sig k b n s) h = absurd (none-some w h)
wrapped_is t q c w (Pair j r) h = absurd (none-some w h)
wrapped_is t q c w (Agree a b s) h = absurd (none-some w h)

pub unwrapped_is : (t : WrapScheme) (q : PublicKeyKind) (w c : List ℕ) (l : Line) → unwrapped_in t q w l ≡ Some c
    → (j : PrivateKey) × (l ≡ Unwrap t j w c) × (j.public_part ≡ Some q)
unwrapped_is t q w c (Unwrap u j x d) h =
    let p = cond_some (same_scheme u t && (same_part j.public_part (Some q) && bytes_eq x w)) d c h in
    let both = and_parts (same_scheme u t) (same_part j.public_part (Some q) && bytes_eq x w) p.0 in
    let rest = and_parts (same_part j.public_part (Some q)) (bytes_eq x w) both.1 in
    let scheme : u ≡ t = (same_scheme_decides u t).0 both.0 in
    let wrapped : x ≡ w = (bytes_eq-Decides x w).0 rest.1 in
    let content : d ≡ c = p.1 in
    (j, cc, (same_part_decides j.public_part (Some q)).0 rest.0)
unwrapped_is t q w c (Sig k b n s) h = absurd (none-some c h)
unwrapped_is t q w c (Pair j r) h = absurd (none-some c h)
unwrapped_is t q w c (Agree a b s) h = absurd (none-some c h)

pub unwrapped_of : (t : WrapScheme) (q : PublicKeyKind) (w c : List ℕ) (j : PrivateKey) → j.public_part ≡ Some q → unwrapped_in t q w (Unwrap t j w c) ≡ Some c
unwrapped_of t q w c j part = rw (part, scheme_same t, key_same q, bytes_same w)

pub wrapped_of : (t : WrapScheme) (q : PublicKeyKind) (c w : List ℕ) (j : PrivateKey) → j.public_part ≡ Some q → wrapped_in t q c (Unwrap t j w c) ≡ Some w
wrapped_of t q c w j part = rw (part, scheme_same t, key_same q, bytes_same c)

-- ---- `agree` lines

or_swap : (x y : Bool) → (x || y) ≡ (y || x)
or_swap true true = refl
or_swap true false = refl
or_swap false true = refl
or_swap false false = refl

pub secret_swap : (a b : PublicKeyKind) (l : Line) → secret_in a b l ≡ secret_in b a l
secret_swap a b (Agree c d s) = ap (λ (t : Bool). cond t (Some s) None) (or_swap (same_public c a && same_public d b) (same_public c b && same_public d a))
secret_swap a b (Sig k e n t) = refl
secret_swap a b (Pair j r) = refl
secret_swap a b (Unwrap t j x c) = refl

pub secret_of : (a b : PublicKeyKind) (s : List ℕ) → secret_in a b (Agree a b s) ≡ Some s
secret_of a b s = rw (key_same a, key_same b)

both_are : (a b c d : PublicKeyKind) (s : List ℕ) → (same_public c a && same_public d b) ≡ true → Agree c d s ≡ Agree a b s
both_are a b c d s h =
    let p = and_parts (same_public c a) (same_public d b) h in
    let one : c ≡ a = (same_public_decides c a).0 p.0 in
    let other : d ≡ b = (same_public_decides d b).0 p.1 in
    cc

pub secret_is : (a b : PublicKeyKind) (s : List ℕ) (l : Line) → secret_in a b l ≡ Some s → (l ≡ Agree a b s) ⊎ (l ≡ Agree b a s)
secret_is a b s (Agree c d t) h =
    let p = cond_some ((same_public c a && same_public d b) || (same_public c b && same_public d a)) t s h in
    let same : Agree c d t ≡ Agree c d s = ap (λ (x : List ℕ). Agree c d x) p.1 in
    elim (or_cases (same_public c a && same_public d b) (same_public c b && same_public d a) p.0) [
      | inl x ↦ inl (same ∙ both_are a b c d s x)
      | inr x ↦ inr (same ∙ both_are b a c d s x)
    ]
secret_is a b s (Sig k e n t) h = absurd (none-some s h)
secret_is a b s (Pair j r) h = absurd (none-some s h)
secret_is a b s (Unwrap t j x c) h = absurd (none-some s h)

receiver_is : (r e c d : PublicKeyKind) (t s : List ℕ) (one other : Bool) → (one ≡ true → c ≡ r) → (other ≡ true → d ≡ r)
    → cond {A = Option (PublicKeyKind × List ℕ)} one (Some (d, t)) (cond other (Some (c, t)) None) ≡ Some (e, s) → (Agree c d t ≡ Agree r e s) ⊎ (Agree c d t ≡ Agree e r s)
receiver_is r e c d t s true other left right h =
    let p = same_Some {A = PublicKeyKind × List ℕ} (d, t) (e, s) h in
    let first : c ≡ r = left refl in
    let second : d ≡ e = ap (λ (x : PublicKeyKind × List ℕ). x.0) p in
    let secret : t ≡ s = ap (λ (x : PublicKeyKind × List ℕ). x.1) p in
    inl (cc)
receiver_is r e c d t s false true left right h =
    let p = same_Some {A = PublicKeyKind × List ℕ} (c, t) (e, s) h in
    let second : d ≡ r = right refl in
    let first : c ≡ e = ap (λ (x : PublicKeyKind × List ℕ). x.0) p in
    let secret : t ≡ s = ap (λ (x : PublicKeyKind × List ℕ). x.1) p in
    inr (cc)
receiver_is r e c d t s false false left right h = absurd (none-some (e, s) h)

pub ephemeral_is : (r e : PublicKeyKind) (s : List ℕ) (l : Line) → ephemeral_in r l ≡ Some (e, s) → (l ≡ Agree r e s) ⊎ (l ≡ Agree e r s)
ephemeral_is r e s (Agree c d t) h = receiver_is r e c d t s (same_public c r) (same_public d r) (same_public_decides c r).0 (same_public_decides d r).0 h
ephemeral_is r e s (Sig k b n t) h = absurd (none-some (e, s) h)
ephemeral_is r e s (Pair j q) h = absurd (none-some (e, s) h)
ephemeral_is r e s (Unwrap t j x c) h = absurd (none-some (e, s) h)

pub ephemeral_of_first : (r e : PublicKeyKind) (s : List ℕ) → ephemeral_in r (Agree r e s) ≡ Some (e, s)
ephemeral_of_first r e s = rw (key_same r)

abbrev given : List ℕ → PublicKeyKind → Option (PublicKeyKind × List ℕ)
given s k = Some (k, s)

-- where the receiver stands on both sides, both are the other key
receiver_on : (r e : PublicKeyKind) (s : List ℕ) (one other : Bool) → (one ≡ true → e ≡ r) → other ≡ true
    → cond {A = Option (PublicKeyKind × List ℕ)} one (Some (r, s)) (cond other (Some (e, s)) None) ≡ Some (e, s)
receiver_on r e s true other both h = ap (given s) (sym (both refl))
receiver_on r e s false other both h = rw h

pub ephemeral_of_second : (r e : PublicKeyKind) (s : List ℕ) → ephemeral_in r (Agree e r s) ≡ Some (e, s)
ephemeral_of_second r e s = receiver_on r e s (same_public e r) (same_public r r) (same_public_decides e r).0 (key_same r)

-- ---- lines without conflict give one answer

one_key_for : (o : Option PublicKeyKind) (q r : PublicKeyKind) → other_key o q ≡ false → o ≡ Some r → r ≡ q
one_key_for None q r h e = absurd (none-some r e)
one_key_for (Some x) q r h e = sym (same_Some x r e) ∙ (same_public_decides x q).0 (not-false (same_public x q) h)

one_bytes_for : (o : Option (List ℕ)) (c d : List ℕ) → other_bytes o c ≡ false → o ≡ Some d → d ≡ c
one_bytes_for None c d h e = absurd (none-some d e)
one_bytes_for (Some x) c d h e = sym (same_Some x d e) ∙ (bytes_eq-Decides x c).0 (not-false (bytes_eq x c) h)

pub one_unwrapped : (t : WrapScheme) (q : PublicKeyKind) (w c d : List ℕ) (j : PrivateKey) (l : Line) → j.public_part ≡ Some q
    → conflicts_with l (Unwrap t j w c) ≡ false → unwrapped_in t q w l ≡ Some d → d ≡ c
one_unwrapped t q w c d j l part h e =
    let other = rw part at h in
    one_bytes_for (unwrapped_in t q w l) c d other e

pub one_secret : (a b : PublicKeyKind) (s d : List ℕ) (l : Line) → conflicts_with l (Agree a b s) ≡ false → secret_in a b l ≡ Some d → d ≡ s
one_secret a b s d l h e = one_bytes_for (secret_in a b l) s d h e

pub one_pair : (k : PrivateKey) (q d : PublicKeyKind) (l : Line) → conflicts_with l (Pair k q) ≡ false → pair_in k l ≡ Some d → d ≡ q
one_pair k q d l apart h = one_key_for (pair_in k l) q d apart h
