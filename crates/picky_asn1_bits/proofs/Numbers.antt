-- The numbers that bytes stand for.
use Rattle.std.proofs.Common.{◌≡◌, ◌≢◌, ℕ, suc, ◌+◌, ◌*◌, ◌^◌, ◌<◌, ◌≤◌, Bool, true, false, List, [], ◌∷◌, length, get_or, drop, pos, ◌-ℤ◌, ◌≤ℤ◌, ◌↔◌, IsTrue, nat_lt, refl, sym, ap, subst, ◌∙◌, ◌⊎◌, if◌then◌else◌, arith, inl, inr, add-one, drop-cons, length-drop}
use Rattle.std.proofs.Math.Nat.{pow-suc}
use Rattle.std.proofs.lemmas.Nat.{mul-add-lt}
use Rattle.std.proofs.lemmas.Int.{ints}
use Rattle.std.proofs.lemmas.Bool.{cases_lt, cases_eq, cases_Bool, ltb-true, le-ltb, lt-ltb}
use Rattle.std.proofs.lemmas.Bool.Decides.{nat_tests}
use Rattle.picky_asn1_bits.specs.Integer.{unsigned_of, int_of, IsShortest, repeats_sign, shortened, unsigned_spelling}

abbrev pub IsBytes : List ℕ → Type 0
IsBytes bytes = (i : ℕ) → get_or bytes i 0 < 256

-- n bytes give a number below 256 ^ n
pub unsigned_lt : (bytes : List ℕ) → IsBytes bytes → unsigned_of bytes < 256 ^ length bytes
unsigned_lt [] small = omega arith
unsigned_lt (b ∷ bs) small =
    rw (pow-suc 256 (length bs)) (mul-add-lt b (256 ^ length bs) (unsigned_of bs) 256 (small 0) (unsigned_lt bs (λ i. small (suc i))))

-- the number by the test of the first byte
pub int_of_low : (b : ℕ) (bs : List ℕ) → b < 128 → int_of (b ∷ bs) ≡ pos (unsigned_of (b ∷ bs))
int_of_low b bs lt = rw (lt-ltb b 128 lt) refl

pub int_of_high : (b : ℕ) (bs : List ℕ) → 128 ≤ b → int_of (b ∷ bs) ≡ pos (unsigned_of (b ∷ bs)) -ℤ pos (256 ^ length (b ∷ bs))
int_of_high b bs le = rw (le-ltb b 128 le) refl

-- the number is at least zero exactly where the first byte is below 128
pub positive : (b : ℕ) (bs : List ℕ) → IsBytes (b ∷ bs) → (b < 128) ↔ (pos 0 ≤ℤ int_of (b ∷ bs))
positive b bs small =
    let below = unsigned_lt (b ∷ bs) small in
    elim (cases_lt b 128) [
      | inl lt ↦ ((λ _. rw (int_of_low b bs lt) (omega (arith, ints))), (λ _. lt))
      | inr le ↦ ((λ lt. absurd (omega arith)), (λ h. let n : pos 0 ≤ℤ (pos (unsigned_of (b ∷ bs)) -ℤ pos (256 ^ length (b ∷ bs))) = rw (int_of_high b bs le) at h in absurd (omega (arith, ints))))
    ]

-- a leading 00 before a byte below 128 stands for nothing
leading_zero : (c : ℕ) (bs : List ℕ) → unsigned_of (0 ∷ c ∷ bs) ≡ unsigned_of (c ∷ bs)
leading_zero c bs = omega arith

-- a leading FF before a byte from 128 on stands for nothing
leading_ones : (c : ℕ) (bs : List ℕ) → pos (unsigned_of (255 ∷ c ∷ bs)) -ℤ pos (256 ^ length (255 ∷ c ∷ bs)) ≡ pos (unsigned_of (c ∷ bs)) -ℤ pos (256 ^ length (c ∷ bs))
leading_ones c bs =
    let p : 256 ^ length (255 ∷ c ∷ bs) ≡ 256 ^ length (c ∷ bs) * 256 = pow-suc 256 (length (c ∷ bs)) in
    omega (arith, ints)

-- the same, of a list that has a byte
pub positive_first : (bytes : List ℕ) → 1 ≤ length bytes → IsBytes bytes → IsTrue (nat_lt (get_or bytes 0 0) 128) ↔ (pos 0 ≤ℤ int_of bytes)
positive_first [] some small = absurd (omega arith)
positive_first (b ∷ bs) some small =
    let p = positive b bs small in
    ((λ t. p.0 (ltb-true b 128 t)), (λ h. lt-ltb b 128 (p.1 h)))

-- a number that is at least zero is that of its bytes
pub int_of-positive : (bytes : List ℕ) → IsBytes bytes → pos 0 ≤ℤ int_of bytes → pos (unsigned_of bytes) ≡ int_of bytes
int_of-positive [] small at_least = refl
int_of-positive (b ∷ bs) small at_least = sym (int_of_low b bs ((positive b bs small).1 at_least))

-- the two ways in which a byte repeats the sign of the next
repeats_cases : (b c : ℕ) → repeats_sign b c ≡ true → ((b ≡ 0) × (c < 128)) ⊎ ((b ≡ 255) × (128 ≤ c))
repeats_cases b c repeats = elim (cases_eq b 0) [
  | inl zero_is ↦ inl (zero_is, grind (arith, nat_tests))
  | inr other ↦ inr (grind (arith, nat_tests), grind (arith, nat_tests))
]

pub int_of-repeats : (b c : ℕ) (bs : List ℕ) → repeats_sign b c ≡ true → int_of (b ∷ c ∷ bs) ≡ int_of (c ∷ bs)
int_of-repeats b c bs repeats = elim (repeats_cases b c repeats) [
  | inl low ↦
      ap (λ (x : ℕ). int_of (x ∷ c ∷ bs)) low.0
      ∙ ap pos (leading_zero c bs)
      ∙ sym (int_of_low c bs low.1)
  | inr high ↦
      ap (λ (x : ℕ). int_of (x ∷ c ∷ bs)) high.0
      ∙ leading_ones c bs
      ∙ sym (int_of_high c bs high.1)
]

-- shortening keeps the number
pub int_of-shortened : (bytes : List ℕ) → int_of (shortened bytes) ≡ int_of bytes
int_of-shortened [] = refl
int_of-shortened (b ∷ []) = refl
int_of-shortened (b ∷ c ∷ bs) = elim (cases_Bool (repeats_sign b c)) [
  | inl repeats ↦
      ap (λ (r : Bool). int_of (if r then shortened (c ∷ bs) else (b ∷ c ∷ bs))) repeats
      ∙ int_of-shortened (c ∷ bs)
      ∙ sym (int_of-repeats b c bs repeats)
  | inr stays ↦ ap (λ (r : Bool). int_of (if r then shortened (c ∷ bs) else (b ∷ c ∷ bs))) stays
]

-- a byte that doesn't repeat the sign of the next begins a shortest spelling
shortest_here : (b c : ℕ) (bs : List ℕ) → repeats_sign b c ≡ false → IsShortest (b ∷ c ∷ bs)
shortest_here b c bs stays = ((λ zero_is. grind (arith, nat_tests)), (λ ones. grind (arith, nat_tests)))

-- what is left is shortest
pub IsShortest-shortened : (bytes : List ℕ) → bytes ≢ [] → IsShortest (shortened bytes)
IsShortest-shortened [] some = absurd (some refl)
IsShortest-shortened (b ∷ []) some = tt
IsShortest-shortened (b ∷ c ∷ bs) some = elim (cases_Bool (repeats_sign b c)) [
  | inl repeats ↦
      let P : Bool → Type 0 = λ r. IsShortest (if r then shortened (c ∷ bs) else (b ∷ c ∷ bs)) in
      subst P (sym repeats) (IsShortest-shortened (c ∷ bs) (λ (h : (c ∷ bs) ≡ []). cc))
  | inr stays ↦
      let P : Bool → Type 0 = λ r. IsShortest (if r then shortened (c ∷ bs) else (b ∷ c ∷ bs)) in
      subst P (sym stays) (shortest_here b c bs stays)
]

-- where the bytes stop repeating the sign, nothing more is dropped
pub shortened-drop : (bytes : List ℕ) (i : ℕ) → i ≤ length bytes → (i + 1 < length bytes → repeats_sign (get_or bytes i 0) (get_or bytes (i + 1) 0) ≡ false) → shortened (drop i bytes) ≡ drop i bytes
shortened-drop bytes i within stays = elim (cases_lt (i + 1) (length bytes)) [
  | inl more ↦
      let here : drop i bytes ≡ get_or bytes i 0 ∷ drop (suc i) bytes = drop-cons bytes i 0 (omega arith) in
      let next : drop (suc i) bytes ≡ get_or bytes (suc i) 0 ∷ drop (suc (suc i)) bytes = drop-cons bytes (suc i) 0 (omega arith) in
      let both : drop i bytes ≡ get_or bytes i 0 ∷ get_or bytes (i + 1) 0 ∷ drop (suc (suc i)) bytes = rw (here, next, add-one) refl in
      rw both (ap (λ (r : Bool). if r then shortened (get_or bytes (i + 1) 0 ∷ drop (suc (suc i)) bytes) else (get_or bytes i 0 ∷ get_or bytes (i + 1) 0 ∷ drop (suc (suc i)) bytes)) (stays more))
  | inr few ↦ at_most_one (drop i bytes) (rw (length-drop i bytes) (omega arith))
]
  where
    at_most_one : (rest : List ℕ) → length rest ≤ 1 → shortened rest ≡ rest
    at_most_one [] few = refl
    at_most_one (b ∷ []) few = refl
    at_most_one (b ∷ c ∷ rest) few = absurd (omega arith)

-- a leading 00 changes no unsigned number
zero_in_front : (bytes : List ℕ) → unsigned_of (0 ∷ bytes) ≡ unsigned_of bytes
zero_in_front bytes = omega arith

pub int_of-unsigned_spelling : (bytes : List ℕ) → int_of (unsigned_spelling bytes) ≡ pos (unsigned_of bytes)
int_of-unsigned_spelling [] = refl
int_of-unsigned_spelling (b ∷ bs) = elim (cases_lt b 128) [
  | inl low ↦
      ap (λ (r : Bool). int_of (shortened (if r then (b ∷ bs) else (0 ∷ b ∷ bs)))) (lt-ltb b 128 low)
      ∙ int_of-shortened (b ∷ bs)
      ∙ int_of_low b bs low
  | inr high ↦
      ap (λ (r : Bool). int_of (shortened (if r then (b ∷ bs) else (0 ∷ b ∷ bs)))) (le-ltb b 128 high)
      ∙ int_of-shortened (0 ∷ b ∷ bs)
      ∙ ap pos (zero_in_front (b ∷ bs))
]

pub IsShortest-unsigned_spelling : (bytes : List ℕ) → bytes ≢ [] → IsShortest (unsigned_spelling bytes)
IsShortest-unsigned_spelling [] some = absurd (some refl)
IsShortest-unsigned_spelling (b ∷ bs) some =
    let P : Bool → Type 0 = λ r. IsShortest (shortened (if r then (b ∷ bs) else (0 ∷ b ∷ bs))) in
    elim (cases_lt b 128) [
      | inl low ↦ subst P (sym (lt-ltb b 128 low)) (IsShortest-shortened (b ∷ bs) some)
      | inr high ↦ subst P (sym (le-ltb b 128 high)) (IsShortest-shortened (0 ∷ b ∷ bs) (λ (h : (0 ∷ b ∷ bs) ≡ []). cc))
    ]
