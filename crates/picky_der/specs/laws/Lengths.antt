-- A length that is read is spelled so, and what is spelled so is read again.
use Rattle.std.proofs.Common.{◌≡◌, ℕ, zero, suc, ◌+◌, ◌-◌, ◌*◌, ◌^◌, ◌<◌, ◌≤◌, true, false, ltb, eqb, List, [], ◌∷◌, ◌++◌, length, take, drop, Ok, refl, sym, ap, ◌∙◌, arith, inl, inr}
use Rattle.std.specs.Prelude.{◌||◌, slice_index}
use Rattle.std.proofs.Math.Dec.{eqb-suc-zero}
use Rattle.std.proofs.Math.Nat.{pow-suc}
use Rattle.std.specs.Int.{w64, from_be_bytes, to_be_bytes, bytes_high_first, byte_at}
use Rattle.std.proofs.lemmas.Bool.{cases_lt, eq-eqb, ne_eqb, ltb-false, ltb-true, le-ltb, lt-ltb}
use Rattle.std.proofs.lemmas.List.{take_at, drop_at, take-append-drop, length-append, length-take, get_or-drop, get_or-take, get_or_past}
use Rattle.std.proofs.lemmas.Nat.{be_bytes_8, from_be_bytes-to_be_bytes_8}
use Rattle.picky_asn1_bits.specs.Integer.{unsigned_of}
use Rattle.picky_der.specs.declared.fault.DerError.TheVariants.{Truncated, BadLength}
use Rattle.picky_der.specs.Length.{IsBytes, TailIsBytes, without_zeros, digits, length_of, SpellsLength}
use Rattle.picky_der.specs.Reading.{length_at, long_at}
use Rattle.picky_der.specs.laws.Steps.{chosen, or_false, ok_is, guard_ok, pair_fst, pair_snd}

-- ---- bytes

pub IsBytes-rest : (b : ℕ) (bytes : List ℕ) → IsBytes (b ∷ bytes) → IsBytes bytes
IsBytes-rest b bytes h i = h (suc i)

pub IsBytes-cons : (b : ℕ) (bytes : List ℕ) → b < 256 → IsBytes bytes → IsBytes (b ∷ bytes)
IsBytes-cons b bytes lt h zero = lt
IsBytes-cons b bytes lt h (suc i) = h i

pub TailIsBytes-of : (bytes : List ℕ) → IsBytes bytes → TailIsBytes bytes
TailIsBytes-of [] h = tt
TailIsBytes-of (b ∷ bs) h = IsBytes-rest b bs h

pub IsBytes-drop : (n : ℕ) (bytes : List ℕ) → IsBytes bytes → IsBytes (drop n bytes)
IsBytes-drop n bytes h i = rw get_or-drop (h (n + i))

pub IsBytes-take : (n : ℕ) (bytes : List ℕ) → IsBytes bytes → IsBytes (take n bytes)
IsBytes-take n bytes h i =
    elim (cases_lt i n) [
      | inl lt ↦ rw (get_or-take n bytes i 0 lt) (h i)
      | inr le ↦ rw (get_or_past (take n bytes) i 0 (omega (arith, length-take n bytes))) (omega arith)
    ]

pub IsBytes-after : (a b : List ℕ) → IsBytes (a ++ b) → IsBytes b
IsBytes-after [] b h = h
IsBytes-after (x ∷ a) b h = IsBytes-after a b (IsBytes-rest x (a ++ b) h)

pub IsBytes-front : (a b : List ℕ) → IsBytes (a ++ b) → IsBytes a
IsBytes-front [] b h i = omega arith
IsBytes-front (x ∷ a) b h zero = h zero
IsBytes-front (x ∷ a) b h (suc i) = IsBytes-front a b (IsBytes-rest x (a ++ b) h) i

pub IsBytes-both : (a b : List ℕ) → IsBytes a → IsBytes b → IsBytes (a ++ b)
IsBytes-both [] b p q = q
IsBytes-both (x ∷ a) b p q = IsBytes-cons x (a ++ b) (p zero) (IsBytes-both a b (IsBytes-rest x a p) q)

-- ---- a number byte by byte

-- the number of which these are the last bytes, where `high` stands for those in front
abbrev pub number_after : ℕ → List ℕ → ℕ
number_after high [] = high
number_after high (b ∷ bs) = number_after (high * 256 + b) bs

one_more : (high b p q u : ℕ) → q ≡ p * 256 → (high * 256 + b) * p + u ≡ high * q + (b * p + u)
one_more high b p q u e = rw e (omega arith)

number_after-sum : (high : ℕ) (bs : List ℕ) → number_after high bs ≡ high * 256 ^ length bs + unsigned_of bs
number_after-sum high [] = omega arith
number_after-sum high (b ∷ bs) = number_after-sum (high * 256 + b) bs ∙ one_more high b (256 ^ length bs) (256 ^ length (b ∷ bs)) (unsigned_of bs) (pow-suc 256 (length bs))

pub unsigned_of-after : (bs : List ℕ) → number_after 0 bs ≡ unsigned_of bs
unsigned_of-after bs = omega (arith, number_after-sum 0 bs)

unsigned_of-zero : (bs : List ℕ) → unsigned_of (0 ∷ bs) ≡ unsigned_of bs
unsigned_of-zero bs = omega arith

-- ---- the fewest bytes of a number

unsigned_of-without_zeros : (ds : List ℕ) → unsigned_of (without_zeros ds) ≡ unsigned_of ds
unsigned_of-without_zeros [] = refl
unsigned_of-without_zeros (zero ∷ ds) = unsigned_of-without_zeros ds ∙ sym (unsigned_of-zero ds)
unsigned_of-without_zeros (suc d ∷ ds) = refl

length-without_zeros : (ds : List ℕ) → length (without_zeros ds) ≤ length ds
length-without_zeros [] = omega arith
length-without_zeros (zero ∷ ds) = omega (arith, length-without_zeros ds)
length-without_zeros (suc d ∷ ds) = omega arith

IsBytes-without_zeros : (ds : List ℕ) → IsBytes ds → IsBytes (without_zeros ds)
IsBytes-without_zeros [] h = h
IsBytes-without_zeros (zero ∷ ds) h = IsBytes-without_zeros ds (IsBytes-rest 0 ds h)
IsBytes-without_zeros (suc d ∷ ds) h = h

unsigned_of_word : (a b c d e f g h : ℕ) → unsigned_of (a ∷ b ∷ c ∷ d ∷ e ∷ f ∷ g ∷ h ∷ []) ≡ from_be_bytes w64 (a ∷ b ∷ c ∷ d ∷ e ∷ f ∷ g ∷ h ∷ [])
unsigned_of_word a b c d e f g h = omega arith

unsigned_of-to_be_bytes : (n : ℕ) → n < 2 ^ 64 → unsigned_of (to_be_bytes w64 n) ≡ n
unsigned_of-to_be_bytes n lt = unsigned_of_word _ _ _ _ _ _ _ _ ∙ from_be_bytes-to_be_bytes_8 n lt

pub unsigned_of-digits : (n : ℕ) → n < 2 ^ 64 → unsigned_of (digits n) ≡ n
unfolding digits
unsigned_of-digits n lt = unsigned_of-without_zeros (to_be_bytes w64 n) ∙ unsigned_of-to_be_bytes n lt

zeros : ℕ → List ℕ → List ℕ
zeros zero ds = ds
zeros (suc k) ds = 0 ∷ zeros k ds

length-zeros : (k : ℕ) (ds : List ℕ) → length (zeros k ds) ≡ k + length ds
unfolding zeros
length-zeros zero ds = omega arith
length-zeros (suc k) ds = omega (arith, length-zeros k ds)

unsigned_of-zeros : (k : ℕ) (ds : List ℕ) → unsigned_of (zeros k ds) ≡ unsigned_of ds
unfolding zeros
unsigned_of-zeros zero ds = refl
unsigned_of-zeros (suc k) ds = unsigned_of-zero (zeros k ds) ∙ unsigned_of-zeros k ds

without_zeros-zeros : (k : ℕ) (ds : List ℕ) → without_zeros (zeros k ds) ≡ without_zeros ds
unfolding zeros
without_zeros-zeros zero ds = refl
without_zeros-zeros (suc k) ds = without_zeros-zeros k ds

IsBytes-zeros : (k : ℕ) (ds : List ℕ) → IsBytes ds → IsBytes (zeros k ds)
unfolding zeros
IsBytes-zeros zero ds h = h
IsBytes-zeros (suc k) ds h = IsBytes-cons 0 (zeros k ds) (omega arith) (IsBytes-zeros k ds h)

from_be_bytes-word : (z : List ℕ) → length z ≡ 8 → from_be_bytes w64 z ≡ unsigned_of z
from_be_bytes-word (a ∷ b ∷ c ∷ d ∷ e ∷ f ∷ g ∷ h ∷ []) len = sym (unsigned_of_word a b c d e f g h)
from_be_bytes-word _ len = absurd (omega arith)

without_zeros-nonzero : (ds : List ℕ) → eqb (slice_index ds 0) 0 ≡ false → without_zeros ds ≡ ds
without_zeros-nonzero [] h = refl
without_zeros-nonzero (zero ∷ ds) h = absurd cc
without_zeros-nonzero (suc d ∷ ds) h = refl

-- bytes without a zero in front are the digits of their number
pub digits-unsigned_of : (ds : List ℕ) → IsBytes ds → length ds ≤ 8 → eqb (slice_index ds 0) 0 ≡ false → digits (unsigned_of ds) ≡ ds
unfolding digits
digits-unsigned_of ds fits short first =
    let k = 8 - length ds in
    let z = zeros k ds in
    let len : length z ≡ 8 = omega (arith, length-zeros k ds) in
    let same : from_be_bytes w64 z ≡ unsigned_of ds = from_be_bytes-word z len ∙ unsigned_of-zeros k ds in
    let back : to_be_bytes w64 (unsigned_of ds) ≡ z = be_bytes_8 z (unsigned_of ds) len (IsBytes-zeros k ds fits) (sym same) in
    ap without_zeros back ∙ without_zeros-zeros k ds ∙ without_zeros-nonzero ds first

below_word : (ds : List ℕ) → IsBytes ds → length ds ≤ 8 → unsigned_of ds < 2 ^ 64
below_word ds fits short =
    let k = 8 - length ds in
    let z = zeros k ds in
    let len : length z ≡ 8 = omega (arith, length-zeros k ds) in
    let same : from_be_bytes w64 z ≡ unsigned_of ds = from_be_bytes-word z len ∙ unsigned_of-zeros k ds in
    let h = IsBytes-zeros k ds fits in
    omega (arith, same, h 0, h 1, h 2, h 3, h 4, h 5, h 6, h 7)

first-without_zeros : (ds : List ℕ) → 0 < unsigned_of ds → eqb (slice_index (without_zeros ds) 0) 0 ≡ false
first-without_zeros [] h = absurd (omega arith)
first-without_zeros (zero ∷ ds) h = first-without_zeros ds (omega (arith, unsigned_of-zero ds))
first-without_zeros (suc d ∷ ds) h = eqb-suc-zero d

positive : (ds : List ℕ) → 0 < unsigned_of ds → 0 < length ds
positive [] h = absurd (omega arith)
positive (d ∷ ds) h = omega arith

byte_at-below : (k n : ℕ) → byte_at k n < 256
byte_at-below zero n = omega arith
byte_at-below (suc k) n = omega arith

IsBytes-high_first : (k n : ℕ) → IsBytes (bytes_high_first k n)
IsBytes-high_first zero n = λ i. omega arith
IsBytes-high_first (suc k) n = IsBytes-cons (byte_at k n) (bytes_high_first k n) (byte_at-below k n) (IsBytes-high_first k n)

IsBytes-digits : (n : ℕ) → IsBytes (digits n)
unfolding digits
IsBytes-digits n = IsBytes-without_zeros (to_be_bytes w64 n) (IsBytes-high_first 8 n)

length-digits : (n : ℕ) → length (digits n) ≤ 8
unfolding digits
length-digits n = length-without_zeros (to_be_bytes w64 n)

first-digits : (n : ℕ) → n < 2 ^ 64 → 0 < n → eqb (slice_index (digits n) 0) 0 ≡ false
unfolding digits
first-digits n lt some = first-without_zeros (to_be_bytes w64 n) (rw (unsigned_of-to_be_bytes n lt) some)

-- ---- a length is read both ways

pub length_again : (n : ℕ) (rest : List ℕ) → n < 2 ^ 64 → length_at (length_of n ++ rest) ≡ Ok (n, rest)
unfolding length_at long_at length_of
length_again n rest lt =
    elim (cases_lt n 128) [
      | inl small ↦ rw (lt-ltb n 128 small, lt-ltb n 128 small) refl
      | inr big ↦
          let ds = digits n in
          let value : unsigned_of ds ≡ n = unsigned_of-digits n lt in
          let long : length ds ≤ 8 = length-digits n in
          let some : 0 < length ds = positive ds (omega arith) in
          let first : eqb (slice_index ds 0) 0 ≡ false = first-digits n lt (omega arith) in
          let test1 : ltb n 128 ≡ false = le-ltb n 128 big in
          let test2 : ltb (128 + length ds) 128 ≡ false = le-ltb (128 + length ds) 128 (omega arith) in
          let count : 128 + length ds - 128 ≡ length ds = omega arith in
          let test3 : ltb (length (ds ++ rest)) (length ds) ≡ false = le-ltb _ _ (omega (arith, length-append ds rest)) in
          let test4 : eqb (length ds) 0 ≡ false = ne_eqb (length ds) 0 (λ (h : length ds ≡ 0). omega arith) in
          let test5 : ltb 8 (length ds) ≡ false = le-ltb 8 (length ds) long in
          rw (test1, test2, count, test3, test4, test5, take_at ds rest (length ds) refl, drop_at ds rest (length ds) refl, first, value, test1) refl
    ]

long_takes : (k : ℕ) (bytes : List ℕ) (n : ℕ) (rest : List ℕ) → IsBytes bytes → long_at k bytes ≡ Ok (n, rest) → (bytes ≡ digits n ++ rest) × (length (digits n) ≡ k) × (128 ≤ n) × (n < 2 ^ 64)
unfolding long_at
long_takes k bytes n rest fits e =
    let ds = take k bytes in
    let a = guard_ok (ltb (length bytes) k) Truncated _ (n, rest) e in
    let b = guard_ok (eqb k 0 || ltb 8 k) BadLength _ (n, rest) a.1 in
    let c = guard_ok (eqb (slice_index ds 0) 0 || ltb (unsigned_of ds) 128) BadLength (Ok (unsigned_of ds, drop k bytes)) (n, rest) b.1 in
    let pair = ok_is (unsigned_of ds, drop k bytes) (n, rest) c.1 in
    let n-is : unsigned_of ds ≡ n = pair_fst _ _ pair in
    let rest-is : drop k bytes ≡ rest = pair_snd _ _ pair in
    let enough : k ≤ length bytes = ltb-false (length bytes) k a.0 in
    let few : k ≤ 8 = ltb-false 8 k (or_false (eqb k 0) (ltb 8 k) b.0).1 in
    let tests = or_false (eqb (slice_index ds 0) 0) (ltb (unsigned_of ds) 128) c.0 in
    let first : eqb (slice_index ds 0) 0 ≡ false = tests.0 in
    let big : 128 ≤ unsigned_of ds = ltb-false (unsigned_of ds) 128 tests.1 in
    let len : length ds ≡ k = omega (arith, length-take k bytes) in
    let bytes-ds = IsBytes-take k bytes fits in
    let same : digits n ≡ ds = rw (← n-is) (digits-unsigned_of ds bytes-ds (omega arith) first) in
    let below : unsigned_of ds < 2 ^ 64 = below_word ds bytes-ds (omega arith) in
    (rw (same, ← rest-is) (sym (take-append-drop k bytes)), rw same len, omega arith, omega arith)

pub length_takes : (bytes : List ℕ) (n : ℕ) (rest : List ℕ) → IsBytes bytes → length_at bytes ≡ Ok (n, rest) → (bytes ≡ length_of n ++ rest) × (n < 2 ^ 64)
unfolding length_at length_of
length_takes [] n rest fits e = absurd cc
length_takes (b ∷ bs) n rest fits e =
    elim (chosen (ltb b 128) _ _ _ e) [
      | inl h ↦
          let pair = ok_is (b, bs) (n, rest) h.1 in
          let n-is : b ≡ n = pair_fst _ _ pair in
          let rest-is : bs ≡ rest = pair_snd _ _ pair in
          let small : b < 128 = ltb-true _ _ h.0 in
          (rw (← n-is, ← rest-is, h.0) refl, omega arith)
      | inr h ↦
          let l = long_takes (b - 128) bs n rest (IsBytes-rest b bs fits) h.1 in
          let large : 128 ≤ b = ltb-false _ _ h.0 in
          let test : ltb n 128 ≡ false = le-ltb n 128 l.2 in
          let head : 128 + length (digits n) ≡ b = omega (arith, l.1) in
          (rw (test, head) (ap (λ (t : List ℕ). b ∷ t) l.0), l.3)
    ]

-- ---- the grammar of lengths has one spelling for each

-- what is written is spelled by the grammar
pub length_of-spells : (n : ℕ) → n < 2 ^ 64 → SpellsLength (length_of n) n
unfolding length_of
length_of-spells n lt =
    elim (cases_lt n 128) [
      | inl small ↦ rw (lt-ltb n 128 small) (inl (record { bytes_are = refl; below = small }))
      | inr big ↦
          let value : unsigned_of (digits n) ≡ n = unsigned_of-digits n lt in
          rw (le-ltb n 128 big) (inr (record {
            length_bytes = digits n;
            bytes_are = refl;
            are_bytes = IsBytes-digits n;
            some = positive (digits n) (omega arith);
            few = length-digits n;
            first = λ h. absurd (let same : eqb (slice_index (digits n) 0) 0 ≡ true = eq-eqb (slice_index (digits n) 0) 0 h in let other = first-digits n lt (omega arith) in cc);
            number = value;
            not_short = big;
          }))
    ]

-- what the grammar spells is what is written
pub spells-length_of : (s : List ℕ) (n : ℕ) → SpellsLength s n → (s ≡ length_of n) × (n < 2 ^ 64)
unfolding length_of
spells-length_of s n (inl p) =
    let small = p.below in
    (rw (lt-ltb n 128 small) p.bytes_are, omega arith)
spells-length_of s n (inr p) =
    let ds = p.length_bytes in
    let first : eqb (slice_index ds 0) 0 ≡ false = ne_eqb (slice_index ds 0) 0 p.first in
    let same : digits n ≡ ds = rw (← p.number) (digits-unsigned_of ds p.are_bytes p.few first) in
    let below : unsigned_of ds < 2 ^ 64 = below_word ds p.are_bytes p.few in
    let big = p.not_short in
    (rw (le-ltb n 128 big, same) p.bytes_are, omega (arith, p.number))
