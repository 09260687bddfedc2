-- The key schedule, word by word.
use Rattle.std.proofs.Common.{◌≡◌, ℕ, ◌+◌, ◌-◌, ◌*◌, ◌/◌, ◌%◌, ◌<◌, ◌≤◌, List, [], ◌∷◌, ◌++◌, length, map, take, drop, slice_index, refl, sym, ap, ◌∙◌, arith, bit_xor, inl, inr, add-one, append_assoc, true, nat_eq}
use Rattle.std.specs.Prelude.{◌==◌}
use Rattle.std.specs.Int.Bits.{xor_zero_r}
use Rattle.std.proofs.lemmas.List.{drop-take, drop_more, length-append, length-take-le, take-take, take_at}
use Rattle.std.proofs.lemmas.Bool.{agree_below_at, eqb-true}
use Rattle.std.proofs.lemmas.List.FromFn.{fill_by_all}
use Rattle.picky_contract.specs.Sums.{add_bytes}
use Rattle.picky_aes.specs.Cipher.{key_step, power_of_x, schedule, word_at}
use Rattle.picky_aes.specs.Expanded.{IsWordCount}
use Rattle.picky_aes.specs.Field.{substitute}
use Rattle.picky_aes.specs.declared.key_schedule.TheConstants.{POWERS}

-- the word at place i, by its bytes
pub word-is : (w : List ℕ) (i : ℕ) → 4 * i + 4 ≤ length w
    → slice_index w (4 * i) ∷ slice_index w (4 * i + 1) ∷ slice_index w (4 * i + 2) ∷ slice_index w (4 * i + 3) ∷ [] ≡ word_at w i
word-is w i h =
    let j : ℕ = 4 * i in
    let n : j + 4 - j ≡ 4 = omega arith in
    let e2 : j + 1 + 1 ≡ j + 2 = omega arith in
    let e3 : j + 2 + 1 ≡ j + 3 = omega arith in
    let d0 : drop j w ≡ slice_index w j ∷ drop (j + 1) w = drop_more w j 0 (omega arith) in
    let d1 : drop (j + 1) w ≡ slice_index w (j + 1) ∷ drop (j + 2) w = drop_more w (j + 1) 0 (omega arith) ∙ ap (λ k. slice_index w (j + 1) ∷ drop k w) e2 in
    let d2 : drop (j + 2) w ≡ slice_index w (j + 2) ∷ drop (j + 3) w = drop_more w (j + 2) 0 (omega arith) ∙ ap (λ k. slice_index w (j + 2) ∷ drop k w) e3 in
    let d3 : drop (j + 3) w ≡ slice_index w (j + 3) ∷ drop (j + 3 + 1) w = drop_more w (j + 3) 0 (omega arith) in
    let all : drop j w ≡ slice_index w j ∷ slice_index w (j + 1) ∷ slice_index w (j + 2) ∷ slice_index w (j + 3) ∷ drop (j + 3 + 1) w =
    d0 ∙ ap (λ l. slice_index w j ∷ l) (d1 ∙ ap (λ l. slice_index w (j + 1) ∷ l) (d2 ∙ ap (λ l. slice_index w (j + 2) ∷ l) d3)) in
    sym (ap (λ k. take k (drop j w)) n ∙ ap (take 4) all)

-- a word of the front is a word of the front alone
word-front : (w : List ℕ) (k j : ℕ) → 4 * j + 4 ≤ k → word_at (take k w) j ≡ word_at w j
word-front w k j h =
    let n : 4 * j + 4 - 4 * j ≡ 4 = omega arith in
    let split : k ≡ 4 * j + (k - 4 * j) = omega arith in
    ap (λ m. take (4 * j + 4 - 4 * j) (drop (4 * j) (take m w))) split
    ∙ ap (take (4 * j + 4 - 4 * j)) (drop-take (4 * j) (k - 4 * j) w)
    ∙ take-take (4 * j + 4 - 4 * j) (k - 4 * j) (drop (4 * j) w) (omega arith)

pub by_four : (t : List ℕ) → length t ≡ 4 → slice_index t 0 ∷ slice_index t 1 ∷ slice_index t 2 ∷ slice_index t 3 ∷ [] ≡ t
by_four t h = sym (fill_by_all (slice_index t) t 4 0 h (λ k l. refl))

-- one more word in the front of an array
pub schedule-more : (n : ℕ) (key w word rest : List ℕ) (m k : ℕ) → 1 ≤ n → take (4 * (n + m)) w ≡ schedule n key m → 4 * (n + m) ≤ length w → length word ≡ 4
    → word ≡ add_bytes (word_at w m) (key_step n (n + m) (word_at w (n + m - 1))) → k ≡ 4 * (n + (m + 1))
    → take k (take (4 * (n + m)) w ++ (word ++ rest)) ≡ schedule n key (m + 1)
unfolding schedule
schedule-more n key w word rest m k pos done size four e ek =
    let front : List ℕ = take (4 * (n + m)) w in
    let whole : length (front ++ word) ≡ k = omega (arith, length-append front word, length-take-le (4 * (n + m)) w size) in
    let before : word_at w m ≡ word_at (schedule n key m) m = sym (word-front w (4 * (n + m)) m (omega arith)) ∙ ap (λ l. word_at l m) done in
    let last : word_at w (n + m - 1) ≡ word_at (schedule n key m) (n + m - 1) = sym (word-front w (4 * (n + m)) (n + m - 1) (omega arith)) ∙ ap (λ l. word_at l (n + m - 1)) done in
    ap (take k) (sym (append_assoc front word rest)) ∙ take_at (front ++ word) rest k whole
    ∙ (λ i. done i ++ (e ∙ (λ j. add_bytes (before j) (key_step n (n + m) (last j)))) i)
    ∙ ap (schedule n key) (sym (add-one m))

pub schedule-first : (n : ℕ) (key x rest : List ℕ) → length key ≡ 4 * n → x ≡ key → take (4 * (n + 0)) (x ++ rest) ≡ schedule n key 0
unfolding schedule
schedule-first n key x rest h e = take_at x rest (4 * (n + 0)) (ap length e ∙ omega arith) ∙ e

POWERS-power_of_x : (k : ℕ) → k < 10 → slice_index POWERS k ≡ power_of_x k
unfolding power_of_x
POWERS-power_of_x k h =
    eqb-true _ _ (agree_below_at (λ k. nat_eq (slice_index POWERS k) (power_of_x k)) (λ k. true) 10 k refl h)

power_bound : (n i : ℕ) → IsWordCount n → i < 4 * n + 28 → i / n - 1 < 10
power_bound n i (inl e) h = let k : i < 4 * 4 + 28 = rw e at h in rw e (omega (arith, k))
power_bound n i (inr (inl e)) h = let k : i < 4 * 6 + 28 = rw e at h in rw e (omega (arith, k))
power_bound n i (inr (inr e)) h = let k : i < 4 * 8 + 28 = rw e at h in rw e (omega (arith, k))

pub step-first : (n i : ℕ) (t : List ℕ) (p q r s : ℕ) → IsWordCount n → i < 4 * n + 28 → length t ≡ 4 → i % n ≡ 0
    → p ≡ substitute (slice_index t 1) → q ≡ substitute (slice_index t 2) → r ≡ substitute (slice_index t 3) → s ≡ substitute (slice_index t 0)
    → bit_xor p (slice_index POWERS (i / n - 1)) ∷ q ∷ r ∷ s ∷ [] ≡ key_step n i t
step-first n i t p q r s hn hi ht e ep eq er es =
    let test : (i % n == 0) ≡ true = ap (λ k. k == 0) e in
    let power = POWERS-power_of_x (i / n - 1) (power_bound n i hn hi) in
    rw test
    ((λ d. bit_xor (ep d) (power d) ∷ (eq ∙ sym (xor_zero_r _)) d ∷ (er ∙ sym (xor_zero_r _)) d ∷ (es ∙ sym (xor_zero_r _)) d ∷ [])
    ∙ ap (λ t. add_bytes (map substitute (drop 1 t ++ take 1 t)) (power_of_x (i / n - 1) ∷ 0 ∷ 0 ∷ 0 ∷ [])) (by_four t ht))

pub key_size-range : (n : ℕ) → IsWordCount n → (4 ≤ n) × (n ≤ 8)
key_size-range n (inl e) = (omega arith, omega arith)
key_size-range n (inr (inl e)) = (omega arith, omega arith)
key_size-range n (inr (inr e)) = (omega arith, omega arith)
