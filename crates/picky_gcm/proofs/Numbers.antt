-- The coefficients of a number.
use Rattle.std.proofs.Common.{◌≡◌, ℕ, zero, suc, ◌+◌, ◌-◌, ◌*◌, ◌/◌, ◌%◌, ◌^◌, ◌<◌, false, ◌∷◌, length, get_or, take, lit<, refl, sym, ap, ◌∙◌, arith, bit_xor, inl, inr}
use Rattle.std.specs.Prelude.{◌==◌}
use Rattle.std.specs.Int.{bit_at}
use Rattle.std.specs.Int.Bits.{xor_zero_r}
use Rattle.std.proofs.lemmas.Bool.{cases_lt}
use Rattle.std.proofs.lemmas.Nat.Bits.{bit_at-lt, bit_at-suc, bit_at_above, bit_at_lowest, bit_at_xor}
use Rattle.std.proofs.lemmas.Nat.{xor_lt}
use Rattle.picky_gcm.specs.Polynomial.{coefficients, odd, plus, scale, tail, times_x, zeros}
use Rattle.picky_gcm.specs.Table.{times_x4}
use Rattle.picky_gcm.proofs.Walk.{length-tail, plus-zeros_right, scale_false, scale_true}

odd_bits : (p q : ℕ) → p < 2 → q < 2 → ((p + q) % 2 == 1) ≡ odd (p == 1) (q == 1)
odd_bits p q hp hq = elim (cases_lt p 1) [
  | inl lp ↦ let ep : p ≡ 0 = omega arith in elim (cases_lt q 1) [
    | inl lq ↦ let eq : q ≡ 0 = omega arith in rw (ep, eq) refl
    | inr gq ↦ let eq : q ≡ 1 = omega arith in rw (ep, eq) refl
  ]
  | inr gp ↦ let ep : p ≡ 1 = omega arith in elim (cases_lt q 1) [
    | inl lq ↦ let eq : q ≡ 0 = omega arith in rw (ep, eq) refl
    | inr gq ↦ let eq : q ≡ 1 = omega arith in rw (ep, eq) refl
  ]
]

pub coefficients-xor : (n a b : ℕ) → coefficients n (bit_xor a b) ≡ plus (coefficients n a) (coefficients n b)
unfolding coefficients
coefficients-xor zero a b = refl
coefficients-xor (suc n) a b =
    let head : (bit_at (bit_xor a b) n == 1) ≡ odd (bit_at a n == 1) (bit_at b n == 1) =
    ap (λ x. x == 1) (bit_at_xor a b n) ∙ odd_bits (bit_at a n) (bit_at b n) (bit_at-lt a n) (bit_at-lt b n) in
    λ i. head i ∷ coefficients-xor n a b i

pub length-coefficients : (n x : ℕ) → length (coefficients n x) ≡ n
unfolding coefficients
length-coefficients zero x = refl
length-coefficients (suc n) x = ap suc (length-coefficients n x)

pub get-coefficients : (n x i : ℕ) → i < n → get_or (coefficients n x) i false ≡ (bit_at x (n - 1 - i) == 1)
unfolding coefficients
get-coefficients zero x i h = absurd (omega arith)
get-coefficients (suc n) x zero h = ap (λ k. bit_at x k == 1) (omega arith)
get-coefficients (suc n) x (suc i) h = get-coefficients n x i (omega arith) ∙ ap (λ k. bit_at x k == 1) (omega arith)

front-half : (n x : ℕ) → coefficients n (x / 2) ≡ take n (coefficients (suc n) x)
unfolding coefficients
front-half zero x = refl
front-half (suc n) x = λ i. (sym (bit_at-suc x n) i == 1) ∷ front-half n x i

pub coefficients-half : (n x : ℕ) → x < 2 ^ suc n → coefficients (suc n) (x / 2) ≡ false ∷ take n (coefficients (suc n) x)
unfolding coefficients
coefficients-half n x h =
    let none : bit_at (x / 2) n ≡ 0 = sym (bit_at-suc x n) ∙ bit_at_above x (suc n) (suc n) h (omega arith) in
    (λ i. (none i == 1) ∷ front-half n x i)

last_coefficient : (x b : ℕ) → x % 2 ≡ b → get_or (coefficients 128 x) 127 false ≡ (b == 1)
last_coefficient x b h = get-coefficients 128 x 127 (lit< tt) ∙ ap (λ k. k == 1) (bit_at_lowest x ∙ h)

pub times_x-even : (x : ℕ) → x < 2 ^ 128 → x % 2 ≡ 0 → coefficients 128 (x / 2) ≡ times_x (coefficients 128 x)
unfolding times_x
times_x-even x h e =
    let size : length (false ∷ take 127 (coefficients 128 x)) ≡ 128 = ap length (sym (coefficients-half 127 x h)) ∙ length-coefficients 128 (x / 2) in
    coefficients-half 127 x h
    ∙ sym (plus-zeros_right 128 (false ∷ take 127 (coefficients 128 x)) (omega arith))
    ∙ ap (plus (false ∷ take 127 (coefficients 128 x))) (ap zeros (sym length-tail) ∙ sym (scale_false tail) ∙ ap (λ b. scale b tail) (sym (last_coefficient x 0 e)))

tail-coefficients : coefficients 128 0xe1000000000000000000000000000000 ≡ tail
unfolding coefficients tail
tail-coefficients = refl

pub times_x-odd : (x : ℕ) → x < 2 ^ 128 → x % 2 ≡ 1 → coefficients 128 (bit_xor (x / 2) 0xe1000000000000000000000000000000) ≡ times_x (coefficients 128 x)
unfolding times_x
times_x-odd x h e =
    coefficients-xor 128 (x / 2) 0xe1000000000000000000000000000000
    ∙ (λ i. plus (coefficients-half 127 x h i) (tail-coefficients i))
    ∙ ap (plus (false ∷ take 127 (coefficients 128 x))) (sym (scale_true tail) ∙ ap (λ b. scale b tail) (sym (last_coefficient x 1 e)))

-- ---- zero
pub zero-coefficients : coefficients 128 0 ≡ zeros 128
unfolding coefficients zeros
zero-coefficients = refl

-- ---- x times a block as a number
abbrev pub halved : ℕ → ℕ
halved n = bit_xor (n / 2) (n % 2 * 0xe1000000000000000000000000000000)

halved-times_x : (n : ℕ) → n < 2 ^ 128 → coefficients 128 (halved n) ≡ times_x (coefficients 128 n)
halved-times_x n h = elim (cases_lt (n % 2) 1) [
  | inl l ↦
      let e : n % 2 ≡ 0 = omega arith in
      rw e (ap (coefficients 128) (xor_zero_r (n / 2)) ∙ times_x-even n h e)
  | inr g ↦ let e : n % 2 ≡ 1 = omega arith in rw e (times_x-odd n h e)
]

low_lt : (n : ℕ) → n % 2 * 0xe1000000000000000000000000000000 < 2 ^ 128
low_lt n = elim (cases_lt (n % 2) 1) [
  | inl l ↦ let e : n % 2 ≡ 0 = omega arith in rw e (lit< tt)
  | inr g ↦ let e : n % 2 ≡ 1 = omega arith in rw e (lit< tt)
]

halved-lt : (n : ℕ) → n < 2 ^ 128 → halved n < 2 ^ 128
halved-lt n h = xor_lt 128 (n / 2) (n % 2 * 0xe1000000000000000000000000000000) (omega arith) (low_lt n)

pub halved4-times_x4 : (n : ℕ) → n < 2 ^ 128 → coefficients 128 (halved (halved (halved (halved n)))) ≡ times_x4 (coefficients 128 n)
halved4-times_x4 n h =
    let h1 = halved-lt n h in
    let h2 = halved-lt (halved n) h1 in
    let h3 = halved-lt (halved (halved n)) h2 in
    halved-times_x (halved (halved (halved n))) h3
    ∙ ap times_x (halved-times_x (halved (halved n)) h2)
    ∙ ap (λ v. times_x (times_x v)) (halved-times_x (halved n) h1)
    ∙ ap (λ v. times_x (times_x (times_x v))) (halved-times_x n h)

-- x times twice a number
twice-times_x : (k n : ℕ) → n < 2 ^ 128 → n ≡ k * 2 → coefficients 128 k ≡ times_x (coefficients 128 n)
twice-times_x k n h e =
    let half : k ≡ n / 2 = omega arith in
    let even : n % 2 ≡ 0 = omega arith in
    ap (coefficients 128) half ∙ times_x-even n h even

pub sixteenfold-times_x4 : (k : ℕ) → k * 16 < 2 ^ 128 → coefficients 128 k ≡ times_x4 (coefficients 128 (k * 16))
sixteenfold-times_x4 k h =
    twice-times_x k (k * 2) (omega arith) refl
    ∙ ap times_x (twice-times_x (k * 2) (k * 4) (omega arith) (omega arith))
    ∙ ap (λ v. times_x (times_x v)) (twice-times_x (k * 4) (k * 8) (omega arith) (omega arith))
    ∙ ap (λ v. times_x (times_x (times_x v))) (twice-times_x (k * 8) (k * 16) (omega arith) (omega arith))
