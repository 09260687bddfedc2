-- Bytes as numbers, the highest first: a byte more, and a sum by carries from the lowest byte on.
use Rattle.std.proofs.Common.{◌≡◌, ℕ, zero, suc, ◌+◌, ◌-◌, ◌*◌, ◌/◌, ◌%◌, ◌^◌, ◌<◌, ◌≤◌, List, [], ◌∷◌, ◌++◌, length, take, drop, get_or, set, refl, sym, ap, ◌∙◌, arith}
use Rattle.std.proofs.Math.Nat.{mul_assoc, mul-add-div_right, mul-add-mod_self_right}
use Rattle.std.proofs.lemmas.Nat.{pow-add, pow_pos, shr-shr, shr_split}
use Rattle.std.proofs.lemmas.List.{append-nil, drop_all, take_all}
use Rattle.picky_kdf.specs.Pkcs12Kdf.{bytes_of, number, raised}

pow-byte : (k : ℕ) → 2 ^ (8 * suc k) ≡ 256 * 2 ^ (8 * k)
pow-byte k =
    let e : 8 * suc k ≡ 8 + 8 * k = omega arith in
    ap (λ n. 2 ^ n) e ∙ pow-add 2 8 (8 * k)

number-drop : (xs : List ℕ) (j k : ℕ) → length xs ≡ j + suc k → number (drop j xs) ≡ get_or xs j 0 * 2 ^ (8 * k) + number (drop (suc j) xs)
number-drop [] j k e = absurd (omega arith)
number-drop (x ∷ xs) zero k e =
    let size : length xs ≡ k = omega arith in
    ap (λ n. x * 2 ^ (8 * n) + number xs) size
number-drop (x ∷ xs) (suc j) k e = number-drop xs j k (omega arith)

-- what lies above v bytes is dropped
pub bytes_of-add : (v a n : ℕ) → bytes_of v (a * 2 ^ (8 * v) + n) ≡ bytes_of v n
bytes_of-add zero a n = refl
bytes_of-add (suc v) a n =
    let e : a * 2 ^ (8 * suc v) + n ≡ a * 256 * 2 ^ (8 * v) + n = ap (λ t. a * t + n) (pow-byte v) ∙ ap (λ t. t + n) (sym (mul_assoc a 256 (2 ^ (8 * v)))) in
    let head : (a * 256 * 2 ^ (8 * v) + n) / 2 ^ (8 * v) % 256 ≡ n / 2 ^ (8 * v) % 256 = ap (λ t. t % 256) (mul-add-div_right {m = 2 ^ (8 * v)} (pow_pos (8 * v)) (a * 256) n) ∙ mul-add-mod_self_right a 256 (n / 2 ^ (8 * v)) in
    ap (λ t. t / 2 ^ (8 * v) % 256 ∷ bytes_of v t) e ∙ (λ i. head i ∷ bytes_of-add v (a * 256) n i)

-- the sum of both ends from place j on, and 1
abbrev pub sum_from : List ℕ → List ℕ → ℕ → ℕ
sum_from xs ys j = number (drop j xs) + number (drop j ys) + 1

sum_from-step : (xs ys : List ℕ) (j k : ℕ) → length xs ≡ j + suc k → length ys ≡ length xs → sum_from xs ys j ≡ (get_or xs j 0 + get_or ys j 0) * 2 ^ (8 * k) + sum_from xs ys (suc j)
sum_from-step xs ys j k e f =
    let in_xs = number-drop xs j k e in
    let in_ys = number-drop ys j k (f ∙ e) in
    grind arith

-- one byte more of the sum, and the carry out of it
quotient : (xs ys : List ℕ) (j k carry : ℕ) → length xs ≡ j + suc k → length ys ≡ length xs → carry ≡ sum_from xs ys (suc j) / 2 ^ (8 * k)
    → get_or xs j 0 + get_or ys j 0 + carry ≡ sum_from xs ys j / 2 ^ (8 * k)
quotient xs ys j k carry e f r =
    ap (λ t. get_or xs j 0 + get_or ys j 0 + t) r
    ∙ sym (mul-add-div_right {m = 2 ^ (8 * k)} (pow_pos (8 * k)) (get_or xs j 0 + get_or ys j 0) (sum_from xs ys (suc j)))
    ∙ ap (λ t. t / 2 ^ (8 * k)) (sym (sum_from-step xs ys j k e f))

quotient-next : (n k : ℕ) → n / 2 ^ (8 * k) / 256 ≡ n / 2 ^ (8 * suc k)
quotient-next n k =
    let e : 8 * k + 8 ≡ 8 * suc k = omega arith in
    shr-shr n (8 * k) 8 ∙ ap (λ t. n / 2 ^ t) e

set-behind : (xs : List ℕ) (j : ℕ) (rest : List ℕ) (y : ℕ) → j < length xs → set (take (suc j) xs ++ rest) j y ≡ take j xs ++ y ∷ rest
set-behind [] j rest y h = absurd (omega arith)
set-behind (x ∷ xs) zero rest y h = refl
set-behind (x ∷ xs) (suc j) rest y h = ap (λ t. x ∷ t) (set-behind xs j rest y (omega arith))

get_or-behind : (xs : List ℕ) (j : ℕ) (rest : List ℕ) → j < length xs → get_or (take (suc j) xs ++ rest) j 0 ≡ get_or xs j 0
get_or-behind [] j rest h = absurd (omega arith)
get_or-behind (x ∷ xs) zero rest h = refl
get_or-behind (x ∷ xs) (suc j) rest h = get_or-behind xs j rest (omega arith)

pub record IsRaisedFrom (old b block : List ℕ) (carry i : ℕ) : Type 0 where
  pub low : block ≡ take i old ++ bytes_of (length old - i) (sum_from old b i)
  pub rest : carry ≡ sum_from old b i / 2 ^ (8 * (length old - i))

raised-step : (old b block : List ℕ) (j k carry x y : ℕ) → length old ≡ j + suc k → length b ≡ length old
    → block ≡ take (suc j) old ++ bytes_of k (sum_from old b (suc j)) → carry ≡ sum_from old b (suc j) / 2 ^ (8 * k)
    → x ≡ get_or block j 0 → y ≡ get_or b j 0
    → (set block j ((x + y + carry) % 256) ≡ take j old ++ bytes_of (suc k) (sum_from old b j))
    × ((x + y + carry) / 256 ≡ sum_from old b j / 2 ^ (8 * suc k))
raised-step old b block j k carry x y e f low rest ex ey =
    let within : j < length old = omega arith in
    let read : x ≡ get_or old j 0 = ex ∙ ap (λ t. get_or t j 0) low ∙ get_or-behind old j _ within in
    let total : x + y + carry ≡ sum_from old b j / 2 ^ (8 * k) = (λ i. read i + ey i + carry) ∙ quotient old b j k carry e f rest in
    let above : bytes_of k (sum_from old b (suc j)) ≡ bytes_of k (sum_from old b j) = sym (bytes_of-add k (get_or old j 0 + get_or b j 0) (sum_from old b (suc j))) ∙ ap (bytes_of k) (sym (sum_from-step old b j k e f)) in (
      (λ i. set (low i) j (total i % 256)) ∙ set-behind old j _ _ within ∙ ap (λ t. take j old ++ sum_from old b j / 2 ^ (8 * k) % 256 ∷ t) above,
      ap (λ t. t / 256) total ∙ quotient-next (sum_from old b j) k,
    )

pub raised_more : (old b block : List ℕ) (i carry x y : ℕ) → 0 < i → i ≤ length old → length b ≡ length old → IsRaisedFrom old b block carry i
    → x ≡ get_or block (i - 1) 0 → y ≡ get_or b (i - 1) 0
    → IsRaisedFrom old b (set block (i - 1) ((x + y + carry) % 256)) ((x + y + carry) / 256) (i - 1)
raised_more old b block zero carry x y some within f h ex ey = absurd (omega arith)
raised_more old b block (suc j) carry x y some within f h ex ey =
    let e : suc j - 1 ≡ j = omega arith in
    let size : length old - j ≡ suc (length old - suc j) = omega arith in
    let step = raised-step old b block j (length old - suc j) carry x y (omega arith) f h.low h.rest (ex ∙ ap (λ n. get_or block n 0) e) (ey ∙ ap (λ n. get_or b n 0) e) in
    rw e (record {
      low = step.0 ∙ ap (λ n. take j old ++ bytes_of n (sum_from old b j)) (sym size);
      rest = step.1 ∙ ap (λ n. sum_from old b j / 2 ^ (8 * n)) (sym size);
    })

pub raised_none : (old b : List ℕ) (n : ℕ) → length old ≡ n → length b ≡ n → IsRaisedFrom old b old 1 n
raised_none old b n e f =
    let none : length old - n ≡ 0 = omega arith in
    let alone : sum_from old b n ≡ 1 = (λ i. number (drop_all n old (omega arith) i) + number (drop_all n b (omega arith) i) + 1) in
    record {
      low = sym (take_all n old (omega arith)) ∙ sym (append-nil (take n old)) ∙ ap (λ v. take n old ++ bytes_of v (sum_from old b n)) (sym none);
      rest = (λ i. sym alone i / 2 ^ (8 * sym none i));
    }

pub raised_all : (old b block : List ℕ) (i carry : ℕ) → i ≡ 0 → IsRaisedFrom old b block carry i → block ≡ raised (length old) b old
unfolding raised
raised_all old b block zero carry e h =
    let v : ℕ = length old in
    let n : ℕ = number old + number b + 1 in
    let all : length old - 0 ≡ length old = omega arith in
    h.low ∙ ap (λ k. bytes_of k n) all ∙ ap (bytes_of v) (sym (shr_split n (8 * v))) ∙ bytes_of-add v (n / 2 ^ (8 * v)) (n % 2 ^ (8 * v))
raised_all old b block (suc i) carry e h = absurd (omega arith)
