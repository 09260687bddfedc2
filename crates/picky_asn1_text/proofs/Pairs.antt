-- Bytes two by two.
use Rattle.std.proofs.Common.{◌≡◌, ◌↔◌, inl, inr, ℕ, ◌/◌, ◌%◌, ◌<◌, ◌≤◌, ◌==◌, Bool, true, IsTrue, List, [], ◌∷◌, ◌++◌, length, get_or, refl, sym, ap, subst, ◌∙◌, All, arith, chars, IsUtf8, append_assoc}
use lib.Utf8.{scalar, scalars, scalar_cases, low_scalar, encode}
use Rattle.std.specs.Char.{IsScalar}
use Rattle.std.specs.Cmp.Derive.{both_true}
use Rattle.std.specs.Int.{w16, to_be_bytes}
use Rattle.std.proofs.lemmas.Bool.Decides.{nat_tests}
use Rattle.std.proofs.lemmas.Bool.{and_parts, eqb-true}
use Rattle.std.proofs.lemmas.Str.{chars-append, chars-encodes}
use Rattle.std.proofs.lemmas.List.{append-nil}
use Rattle.std.proofs.lemmas.List.Elements.{All-nil, All-cons, All-head, All-tail}
use Rattle.picky_asn1_text.specs.Bmp.{IsBmpCharacter, two_bytes_each, IsBmp}

pub bmp_nil : IsBmp []
bmp_nil = ([], All-nil IsBmpCharacter, refl)

pub bmp_cons : (c : ℕ) (rest : List ℕ) → IsBmpCharacter c → IsBmp rest → IsBmp (c / 256 ∷ c % 256 ∷ rest)
bmp_cons c rest h b = (c ∷ b.0, All-cons IsBmpCharacter c b.0 h b.1, ap (λ bytes. c / 256 ∷ c % 256 ∷ bytes) b.2)

-- two bytes have one number
pub same_number : (c d : ℕ) → c / 256 ≡ d / 256 → c % 256 ≡ d % 256 → c ≡ d
same_number c d high low = omega arith

from_parts : (c : ℕ) (rest characters : List ℕ) → All IsBmpCharacter characters → c / 256 ∷ c % 256 ∷ rest ≡ two_bytes_each characters → IsBmpCharacter c × IsBmp rest
from_parts c rest [] all e = absurd (cc)
from_parts c rest (d ∷ ds) all e =
    let high : c / 256 ≡ d / 256 = cc in
    let low : c % 256 ≡ d % 256 = cc in
    let left : rest ≡ two_bytes_each ds = cc in
    let same : d ≡ c = sym (same_number c d high low) in
    (subst IsBmpCharacter same (All-head IsBmpCharacter d ds all), (ds, All-tail IsBmpCharacter d ds all, left))

pub bmp_uncons : (c : ℕ) (rest : List ℕ) → IsBmp (c / 256 ∷ c % 256 ∷ rest) → IsBmpCharacter c × IsBmp rest
bmp_uncons c rest b = from_parts c rest b.0 b.1 b.2

short_parts : (bytes characters : List ℕ) → length bytes < 2 → bytes ≡ two_bytes_each characters → bytes ≡ []
short_parts bytes [] short e = e
short_parts bytes (c ∷ cs) short e = absurd (omega (arith, ap length e))

pub bmp_short : (bytes : List ℕ) → length bytes < 2 → IsBmp bytes → bytes ≡ []
bmp_short bytes short b = short_parts bytes b.0 short b.2

-- fewer than two bytes are left
pub ended : (bytes left : List ℕ) (empty : Bool) → empty ≡ (length left == 0) → length left < 2 → (IsBmp bytes → IsBmp left) × (IsBmp left → IsBmp bytes) → IsTrue empty ↔ IsBmp bytes
ended bytes [] empty e short i = (λ _. i.1 bmp_nil, λ _. e)
ended bytes (x ∷ left) empty e short i = (
  λ t. let none : length (x ∷ left) ≡ 0 = eqb-true (length (x ∷ left)) 0 (sym e ∙ t) in absurd (omega arith),
  λ b. let none : x ∷ left ≡ [] = bmp_short (x ∷ left) short (i.0 b) in absurd (cc),
)

-- ---- what the loop over characters writes

pub two_bytes_push : (cs : List ℕ) (c : ℕ) → two_bytes_each (cs ++ c ∷ []) ≡ two_bytes_each cs ++ (c / 256 ∷ c % 256 ∷ [])
two_bytes_push [] c = refl
two_bytes_push (d ∷ cs) c = ap (λ bytes. d / 256 ∷ d % 256 ∷ bytes) (two_bytes_push cs c)

pub bytes_push : (old new seen pair : List ℕ) (c u : ℕ) → old ≡ two_bytes_each seen → new ≡ old ++ pair → pair ≡ to_be_bytes w16 u → u ≡ c → c < 0x1_0000 → new ≡ two_bytes_each (seen ++ c ∷ [])
bytes_push old new seen pair c u was now is same small =
    let high : u / 256 % 256 ≡ c / 256 = omega arith in
    let low : u % 256 ≡ c % 256 = omega arith in
    let both : pair ≡ c / 256 ∷ c % 256 ∷ [] = is ∙ (rw (high, low) refl) in
    now ∙ ap (λ x. x ++ pair) was ∙ ap (λ x. two_bytes_each seen ++ x) both ∙ sym (two_bytes_push seen c)

-- the character at hand is within the plane where all are
pub within_at : (all seen : List ℕ) (c : ℕ) → All (λ x. x < 0x1_0000) all → (length seen < length all) × (c ≡ get_or all (length seen) c) → c < 0x1_0000
within_at all seen c h t = subst (λ x. x < 0x1_0000) (sym t.1) (h (length seen) c t.0)

-- a character of a text that is at most U+FFFF is one of the plane
pub plane_character : (c : ℕ) → IsScalar c → c < 0x1_0000 → IsBmpCharacter c
plane_character c s h = elim (scalar_cases c s) [ inl low ↦ inl low | inr high ↦ inr (high.0, omega arith) ]

pub plane_characters : (cs : List ℕ) → scalars cs ≡ true → All (λ c. c < 0x1_0000) cs → All IsBmpCharacter cs
plane_characters [] s h = All-nil IsBmpCharacter
plane_characters (c ∷ cs) s h =
    let parts = and_parts (scalar c) (scalars cs) s in
    All-cons IsBmpCharacter c cs (plane_character c parts.0 (All-head (λ x. x < 0x1_0000) c cs h)) (plane_characters cs parts.1 (All-tail (λ x. x < 0x1_0000) c cs h))

pub bmp_from : (all seen bytes : List ℕ) → seen ≡ all → scalars all ≡ true → (bytes ≡ two_bytes_each seen) × All (λ c. c < 0x1_0000) seen → IsBmp bytes
bmp_from all seen bytes e s h = (seen, plane_characters seen (subst (λ cs. scalars cs ≡ true) (sym e) s) h.1, h.0)

-- ---- what the loop over bytes writes

pub two_bytes_append : (cs ds : List ℕ) → two_bytes_each (cs ++ ds) ≡ two_bytes_each cs ++ two_bytes_each ds
two_bytes_append [] ds = refl
two_bytes_append (c ∷ cs) ds = ap (λ bytes. c / 256 ∷ c % 256 ∷ bytes) (two_bytes_append cs ds)

high_scalar : (c : ℕ) → 0xE000 ≤ c → c ≤ 0xFFFF → IsScalar c
high_scalar c low high = grind (arith, nat_tests)

-- a character of the plane is a scalar value
pub plane_scalar : (c : ℕ) → IsBmpCharacter c → IsScalar c
plane_scalar c h = elim h [ inl low ↦ low_scalar c low | inr high ↦ high_scalar c high.0 high.1 ]

-- the text with one character more, and the bytes left after it
pub text_push : (all text more left rest : List ℕ) (c : ℕ) → IsUtf8 text → IsScalar c → all ≡ two_bytes_each (chars text) ++ left → left ≡ c / 256 ∷ c % 256 ∷ rest → more ≡ text ++ encode c
    → all ≡ two_bytes_each (chars more) ++ rest
text_push all text more left rest c u s whole next pushed =
    let one : chars (encode c) ≡ c ∷ [] = subst (λ bytes. chars bytes ≡ c ∷ []) (append-nil (encode c)) (chars-encodes (c ∷ []) (both_true s refl)) in
    let split : chars more ≡ chars text ++ c ∷ [] = ap chars pushed ∙ chars-append text (encode c) u ∙ ap (λ cs. chars text ++ cs) one in
    let written : two_bytes_each (chars more) ≡ two_bytes_each (chars text) ++ (c / 256 ∷ c % 256 ∷ []) = ap two_bytes_each split ∙ two_bytes_push (chars text) c in
    whole ∙ ap (λ x. two_bytes_each (chars text) ++ x) next ∙ sym (append_assoc (two_bytes_each (chars text)) (c / 256 ∷ c % 256 ∷ []) rest) ∙ ap (λ x. x ++ rest) (sym written)
