-- The steps of the multiplication, on pairs of numbers (the functions of `pairs`).
use Rattle.std.proofs.Common.{◌≡◌, ℕ, ◌+◌, ◌*◌, ◌/◌, ◌%◌, ◌^◌, ◌<◌, true, false, nat_eq, Bool, List, ◌∷◌, ◌++◌, length, slice_index, refl, sym, ap, ◌∙◌, arith, bit_xor, lit<, mod-lt}
use Rattle.std.specs.Prelude.{bit_or}
use Rattle.std.proofs.lemmas.Bool.{agree_below_at, eqb-true}
use Rattle.std.proofs.lemmas.List.{length-append}
use Rattle.std.proofs.lemmas.Nat.{or_shifted, xor_block}
use Rattle.std.specs.Int.Bits.{xor_zero_l, xor_zero_r}
use Rattle.picky_gcm.specs.Polynomial.{coefficients, plus, remainder, times_x, zeros}
use Rattle.picky_gcm.specs.Table.{pair_block, times_x4}
use Rattle.picky_gcm.specs.declared.pairs.TheConstants.{REDUCTION}
use Rattle.picky_gcm.proofs.Digits.{pair-coefficients, pair-number}
use Rattle.picky_gcm.proofs.Numbers.{coefficients-xor, halved, halved4-times_x4, length-coefficients, sixteenfold-times_x4, times_x-even, times_x-odd, zero-coefficients}
use Rattle.picky_gcm.proofs.Walk.{plus-append, remainder-false, remainder_block, times_x-plus}

pub length-pair_block : (p : ℕ × ℕ) → length (pair_block p) ≡ 128
length-pair_block p =
    ap length (pair-coefficients p.0 p.1)
    ∙ omega (arith, length-append (coefficients 64 p.0) (coefficients 64 p.1), length-coefficients 64 p.0, length-coefficients 64 p.1)

pub pair-xor : (a b c d : ℕ) → pair_block (bit_xor a c, bit_xor b d) ≡ plus (pair_block (a, b)) (pair_block (c, d))
pair-xor a b c d =
    pair-coefficients (bit_xor a c) (bit_xor b d)
    ∙ (λ i. coefficients-xor 64 a c i ++ coefficients-xor 64 b d i)
    ∙ sym (plus-append (coefficients 64 a) (coefficients 64 c) (coefficients 64 b) (coefficients 64 d) (length-coefficients 64 a ∙ sym (length-coefficients 64 c)))
    ∙ (λ i. plus (sym (pair-coefficients a b) i) (sym (pair-coefficients c d) i))

-- ---- x times a pair
halved-pair : (a b n : ℕ) → a < 2 ^ 64 → b < 2 ^ 64 → n ≡ a * 2 ^ 64 + b
    → pair_block (a / 2, bit_or (a * 2 ^ 63 % 2 ^ 64) (b / 2)) ≡ coefficients 128 (n / 2)
halved-pair a b n ha hb e =
    let moved : a * 2 ^ 63 % 2 ^ 64 ≡ a % 2 * 2 ^ 63 = omega arith in
    let joined : bit_or (a * 2 ^ 63 % 2 ^ 64) (b / 2) ≡ a % 2 * 2 ^ 63 + b / 2 = ap (λ x. bit_or x (b / 2)) moved ∙ or_shifted (a % 2) 63 (b / 2) (omega arith) in
    ap (λ l. pair_block (a / 2, l)) joined ∙ sym (pair-number (a / 2) (a % 2 * 2 ^ 63 + b / 2) (n / 2) (omega arith) (omega arith))

pub times_x-even_pair : (a b : ℕ) → a < 2 ^ 64 → b < 2 ^ 64 → b % 2 ≡ 0
    → pair_block (a / 2, bit_or (a * 2 ^ 63 % 2 ^ 64) (b / 2)) ≡ times_x (pair_block (a, b))
times_x-even_pair a b ha hb e =
    let n : ℕ = a * 2 ^ 64 + b in
    halved-pair a b n ha hb refl ∙ times_x-even n (omega arith) (omega arith) ∙ ap times_x (pair-number a b n hb refl)

pub times_x-odd_pair : (a b : ℕ) → a < 2 ^ 64 → b < 2 ^ 64 → b % 2 ≡ 1
    → plus (pair_block (a / 2, bit_or (a * 2 ^ 63 % 2 ^ 64) (b / 2))) (pair_block (0xe100000000000000, 0)) ≡ times_x (pair_block (a, b))
times_x-odd_pair a b ha hb e =
    let n : ℕ = a * 2 ^ 64 + b in
    (λ i. plus (halved-pair a b n ha hb refl i) (sym (pair-number 0xe100000000000000 0 0xe1000000000000000000000000000000 (lit< tt) refl) i))
    ∙ sym (coefficients-xor 128 (n / 2) 0xe1000000000000000000000000000000)
    ∙ times_x-odd n (omega arith) (omega arith) ∙ ap times_x (pair-number a b n hb refl)

-- ---- x ^ 4 times a pair
remainder-four : (v : List Bool) → length v ≡ 128 → remainder (false ∷ false ∷ false ∷ false ∷ v) ≡ times_x4 v
remainder-four v h =
    remainder-false (false ∷ false ∷ false ∷ v)
    ∙ ap times_x (remainder-false (false ∷ false ∷ v))
    ∙ ap (λ v. times_x (times_x v)) (remainder-false (false ∷ v))
    ∙ ap (λ v. times_x (times_x (times_x v))) (remainder-false v ∙ ap times_x (remainder_block v h))

REDUCTION-halved : (l : ℕ) → l < 16 → slice_index REDUCTION l * 2 ^ 64 ≡ halved (halved (halved (halved l)))
REDUCTION-halved l h =
    eqb-true _ _ (agree_below_at (λ l. nat_eq (slice_index REDUCTION l * 2 ^ 64) (halved (halved (halved (halved l))))) (λ l. true) 16 l refl h)

-- the table holds the remainders
pub REDUCTION-is : (l : ℕ) → l < 16 → pair_block (slice_index REDUCTION l, 0) ≡ remainder (false ∷ false ∷ false ∷ false ∷ coefficients 128 l)
REDUCTION-is l h =
    sym (pair-number (slice_index REDUCTION l) 0 (slice_index REDUCTION l * 2 ^ 64) (lit< tt) (omega arith))
    ∙ ap (coefficients 128) (REDUCTION-halved l h)
    ∙ halved4-times_x4 l (omega arith)
    ∙ sym (remainder-four (coefficients 128 l) (length-coefficients 128 l))

shifted-pair : (a b n : ℕ) → a < 2 ^ 64 → b < 2 ^ 64 → n ≡ a * 2 ^ 64 + b
    → pair_block (a / 16, bit_or (a * 2 ^ 60 % 2 ^ 64) (b / 16)) ≡ coefficients 128 (n / 16)
shifted-pair a b n ha hb e =
    let moved : a * 2 ^ 60 % 2 ^ 64 ≡ a % 16 * 2 ^ 60 = omega arith in
    let joined : bit_or (a * 2 ^ 60 % 2 ^ 64) (b / 16) ≡ a % 16 * 2 ^ 60 + b / 16 = ap (λ x. bit_or x (b / 16)) moved ∙ or_shifted (a % 16) 60 (b / 16) (omega arith) in
    ap (λ l. pair_block (a / 16, l)) joined ∙ sym (pair-number (a / 16) (a % 16 * 2 ^ 60 + b / 16) (n / 16) (omega arith) (omega arith))

split : (n : ℕ) → n ≡ bit_xor (n / 16 * 16) (n % 16)
split n =
    let e = xor_block 4 (n / 16) 0 0 (n % 16) (lit< tt) (mod-lt n (lit< tt)) in
    let l : n / 16 * 16 + 0 ≡ n / 16 * 16 = omega arith in
    let r : 0 * 16 + n % 16 ≡ n % 16 = omega arith in
    let whole : n / 16 * 16 + n % 16 ≡ n = omega arith in
    sym (ap (λ x. bit_xor x (n % 16)) (sym l) ∙ ap (bit_xor (n / 16 * 16 + 0)) (sym r) ∙ e ∙ (λ i. xor_zero_r (n / 16) i * 16 + xor_zero_l (n % 16) i) ∙ whole)

pub times_x4-plus : (u v : List Bool) → times_x4 (plus u v) ≡ plus (times_x4 u) (times_x4 v)
times_x4-plus u v =
    ap (λ v. times_x (times_x (times_x v))) (times_x-plus u v)
    ∙ ap (λ v. times_x (times_x v)) (times_x-plus (times_x u) (times_x v))
    ∙ ap times_x (times_x-plus (times_x (times_x u)) (times_x (times_x v)))
    ∙ times_x-plus (times_x (times_x (times_x u))) (times_x (times_x (times_x v)))

pub times_x4-pair : (a b r : ℕ) → a < 2 ^ 64 → b < 2 ^ 64
    → pair_block (r, 0) ≡ remainder (false ∷ false ∷ false ∷ false ∷ coefficients 128 (b % 16))
    → plus (pair_block (a / 16, bit_or (a * 2 ^ 60 % 2 ^ 64) (b / 16))) (pair_block (r, 0)) ≡ times_x4 (pair_block (a, b))
times_x4-pair a b r ha hb er =
    let n : ℕ = a * 2 ^ 64 + b in
    let last : b % 16 ≡ n % 16 = omega arith in
    let small : n / 16 * 16 < 2 ^ 128 = omega arith in
    (λ i. plus (shifted-pair a b n ha hb refl i) (er i))
    ∙ (λ i. plus (sixteenfold-times_x4 (n / 16) small i)
    ((remainder-four (coefficients 128 (b % 16)) (length-coefficients 128 (b % 16)) ∙ ap (λ l. times_x4 (coefficients 128 l)) last) i))
    ∙ sym (times_x4-plus (coefficients 128 (n / 16 * 16)) (coefficients 128 (n % 16)))
    ∙ ap (λ v. times_x4 v) (sym (coefficients-xor 128 (n / 16 * 16) (n % 16)) ∙ ap (coefficients 128) (sym (split n)) ∙ pair-number a b n hb refl)

-- ---- x ^ 8 times a pair
abbrev times_x8 : List Bool → List Bool
times_x8 v = times_x4 (times_x4 v)

pub REDUCTION-whole : (l : ℕ) → l < 16 → slice_index REDUCTION l % 16 ≡ 0
REDUCTION-whole l h = eqb-true _ _ (agree_below_at (λ l. nat_eq (slice_index REDUCTION l % 16) 0) (λ l. true) 16 l refl h)

shifted8-pair : (a b n : ℕ) → a < 2 ^ 64 → b < 2 ^ 64 → n ≡ a * 2 ^ 64 + b
    → pair_block (a / 256, bit_or (a * 2 ^ 56 % 2 ^ 64) (b / 256)) ≡ coefficients 128 (n / 256)
shifted8-pair a b n ha hb e =
    let moved : a * 2 ^ 56 % 2 ^ 64 ≡ a % 256 * 2 ^ 56 = omega arith in
    let joined : bit_or (a * 2 ^ 56 % 2 ^ 64) (b / 256) ≡ a % 256 * 2 ^ 56 + b / 256 = ap (λ x. bit_or x (b / 256)) moved ∙ or_shifted (a % 256) 56 (b / 256) (omega arith) in
    ap (λ l. pair_block (a / 256, l)) joined ∙ sym (pair-number (a / 256) (a % 256 * 2 ^ 56 + b / 256) (n / 256) (omega arith) (omega arith))

split8 : (n : ℕ) → n ≡ bit_xor (n / 256 * 256) (n % 256)
split8 n =
    let e = xor_block 8 (n / 256) 0 0 (n % 256) (lit< tt) (mod-lt n (lit< tt)) in
    let l : n / 256 * 256 + 0 ≡ n / 256 * 256 = omega arith in
    let r : 0 * 256 + n % 256 ≡ n % 256 = omega arith in
    let whole : n / 256 * 256 + n % 256 ≡ n = omega arith in
    sym (ap (λ x. bit_xor x (n % 256)) (sym l) ∙ ap (bit_xor (n / 256 * 256 + 0)) (sym r) ∙ e ∙ (λ i. xor_zero_r (n / 256) i * 256 + xor_zero_l (n % 256) i) ∙ whole)

times_x8-plus : (u v : List Bool) → times_x8 (plus u v) ≡ plus (times_x8 u) (times_x8 v)
times_x8-plus u v = ap (λ v. times_x4 v) (times_x4-plus u v) ∙ times_x4-plus (times_x4 u) (times_x4 v)

-- the front of a number, and the two groups of four that fall
front-times_x8 : (k : ℕ) → k * 256 < 2 ^ 128 → coefficients 128 k ≡ times_x8 (coefficients 128 (k * 256))
front-times_x8 k h =
    let whole : k * 16 * 16 ≡ k * 256 = omega arith in
    sixteenfold-times_x4 k (omega arith) ∙ ap (λ v. times_x4 v) (sixteenfold-times_x4 (k * 16) (omega arith) ∙ ap (λ m. times_x4 (coefficients 128 m)) whole)

left-is : (f r : ℕ) → f < 16 → pair_block (r, 0) ≡ remainder (false ∷ false ∷ false ∷ false ∷ coefficients 128 f) → pair_block (r, 0) ≡ times_x4 (coefficients 128 f)
left-is f r h e = e ∙ remainder-four (coefficients 128 f) (length-coefficients 128 f)

first-times_x8 : (f r : ℕ) → f < 16 → pair_block (r, 0) ≡ remainder (false ∷ false ∷ false ∷ false ∷ coefficients 128 f) → pair_block (r, 0) ≡ times_x8 (coefficients 128 (f * 16))
first-times_x8 f r h e = left-is f r h e ∙ ap (λ v. times_x4 v) (sixteenfold-times_x4 f (omega arith))

last-times_x8 : (f s : ℕ) → f < 16 → s < 2 ^ 64 → s % 16 ≡ 0 → pair_block (s, 0) ≡ remainder (false ∷ false ∷ false ∷ false ∷ coefficients 128 f)
    → pair_block (s / 16, 0) ≡ times_x8 (coefficients 128 f)
last-times_x8 f s h hs z e =
    let whole : s / 16 * 2 ^ 64 * 16 ≡ s * 2 ^ 64 = omega arith in
    sym (pair-number (s / 16) 0 (s / 16 * 2 ^ 64) (lit< tt) (omega arith))
    ∙ sixteenfold-times_x4 (s / 16 * 2 ^ 64) (omega arith)
    ∙ ap (λ m. times_x4 (coefficients 128 m)) whole
    ∙ ap (λ v. times_x4 v) (pair-number s 0 (s * 2 ^ 64) (lit< tt) (omega arith) ∙ left-is f s h e)

split-three : (a b n : ℕ) → b < 2 ^ 64 → n ≡ a * 2 ^ 64 + b → n ≡ bit_xor (n / 256 * 256) (bit_xor (b / 16 % 16 * 16) (b % 16))
split-three a b n hb e =
    let first : n % 256 / 16 ≡ b / 16 % 16 = omega arith in
    let last : n % 256 % 16 ≡ b % 16 = omega arith in
    split8 n ∙ ap (bit_xor (n / 256 * 256)) (split (n % 256) ∙ (λ i. bit_xor (first i * 16) (last i)))

pub times_x8-pair : (a b r s : ℕ) → a < 2 ^ 64 → b < 2 ^ 64 → s < 2 ^ 64 → s % 16 ≡ 0
    → pair_block (r, 0) ≡ remainder (false ∷ false ∷ false ∷ false ∷ coefficients 128 (b / 16 % 16))
    → pair_block (s, 0) ≡ remainder (false ∷ false ∷ false ∷ false ∷ coefficients 128 (b % 16))
    → plus (pair_block (a / 256, bit_or (a * 2 ^ 56 % 2 ^ 64) (b / 256))) (pair_block (bit_xor r (s / 16), 0)) ≡ times_x4 (times_x4 (pair_block (a, b)))
times_x8-pair a b r s ha hb hs z er es =
    let n : ℕ = a * 2 ^ 64 + b in
    let front : ℕ = n / 256 * 256 in
    let first : ℕ = b / 16 % 16 * 16 in
    let last : ℕ = b % 16 in
    (λ i. plus (shifted8-pair a b n ha hb refl i) (pair-xor r 0 (s / 16) 0 i))
    ∙ (λ i. plus (front-times_x8 (n / 256) (omega arith) i)
    (plus (first-times_x8 (b / 16 % 16) r (omega arith) er i) (last-times_x8 (b % 16) s (omega arith) hs z es i)))
    ∙ ap (plus (times_x8 (coefficients 128 front))) (sym (times_x8-plus (coefficients 128 first) (coefficients 128 last)))
    ∙ sym (times_x8-plus (coefficients 128 front) (plus (coefficients 128 first) (coefficients 128 last)))
    ∙ ap (λ v. times_x8 v) (ap (plus (coefficients 128 front)) (sym (coefficients-xor 128 first last)) ∙ sym (coefficients-xor 128 front (bit_xor first last))
    ∙ ap (coefficients 128) (sym (split-three a b n hb refl)) ∙ pair-number a b n hb refl)

pub pair-zero : pair_block (0, 0) ≡ zeros 128
pair-zero = sym (pair-number 0 0 0 (lit< tt) refl) ∙ zero-coefficients
