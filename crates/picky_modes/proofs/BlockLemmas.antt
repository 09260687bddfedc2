-- The exclusive or of blocks, and blocks of joined lists.
use Rattle.std.proofs.Common.{◌≡◌, ℕ, zero, suc, ◌+◌, ◌-◌, ◌*◌, ◌<◌, ◌≤◌, List, [], ◌∷◌, ◌++◌, length, take, drop, get_or, set, bit_xor, refl, sym, ap, ◌∙◌, arith, add-one, inl, inr, lit<}
use Rattle.std.specs.Int.Bits.{xor_self, xor_zero_r}
use lib.Bits.{xor_assoc}
use Rattle.std.proofs.lemmas.Bool.{cases_lt}
use Rattle.std.proofs.lemmas.Nat.{xor_of_8}
use Rattle.std.proofs.lemmas.List.{drop-append-le, drop_at, get_or-append_right, get_or-drop, get_or-take, get_or_append_left, get_or_past, length-drop, length-take, take-append-le, take_all}
use Rattle.picky_contract.specs.Sums.{add_bytes}
use Rattle.picky_modes.specs.Blocks.{IsBlock, IsBytes, block}

-- ---- exclusive or
xor-step : (xs ys : List ℕ) (i : ℕ) → i < length xs → i < length ys
    → set (add_bytes (take i xs) (take i ys) ++ drop i xs) i (bit_xor (get_or (add_bytes (take i xs) (take i ys) ++ drop i xs) i 0) (get_or ys i 0))
    ≡ add_bytes (take (suc i) xs) (take (suc i) ys) ++ drop (suc i) xs
xor-step [] ys i h k = absurd (omega arith)
xor-step (x ∷ xs) [] i h k = absurd (omega arith)
xor-step (x ∷ xs) (y ∷ ys) zero h k = refl
xor-step (x ∷ xs) (y ∷ ys) (suc i) h k = ap (λ l. bit_xor x y ∷ l) (xor-step xs ys i (omega arith) (omega arith))

-- one step of a loop that adds ys to xs in place
pub xor-more : (xs ys zs : List ℕ) (i : ℕ) → i < length xs → i < length ys → zs ≡ add_bytes (take i xs) (take i ys) ++ drop i xs
    → set zs i (bit_xor (get_or zs i 0) (get_or ys i 0)) ≡ add_bytes (take (i + 1) xs) (take (i + 1) ys) ++ drop (i + 1) xs
xor-more xs ys zs i h k e = rw (e, add-one) (xor-step xs ys i h k)

xor_once : (x y : ℕ) → bit_xor (bit_xor x y) y ≡ x
xor_once x y = xor_assoc x y y ∙ ap (bit_xor x) (xor_self y) ∙ xor_zero_r x

-- what is added twice is gone
pub xor_twice : (xs ys : List ℕ) → length xs ≡ length ys → add_bytes (add_bytes xs ys) ys ≡ xs
xor_twice [] ys e = refl
xor_twice (x ∷ xs) [] e = absurd (omega arith)
xor_twice (x ∷ xs) (y ∷ ys) e = λ i. xor_once x y i ∷ xor_twice xs ys (omega arith) i

pub length-xor : (xs ys : List ℕ) → length xs ≡ length ys → length (add_bytes xs ys) ≡ length xs
length-xor [] ys e = refl
length-xor (x ∷ xs) [] e = absurd (omega arith)
length-xor (x ∷ xs) (y ∷ ys) e = ap suc (length-xor xs ys (omega arith))

pub get_or-xor : (xs ys : List ℕ) (i : ℕ) → length xs ≡ length ys → get_or (add_bytes xs ys) i 0 ≡ bit_xor (get_or xs i 0) (get_or ys i 0)
get_or-xor [] [] i e = refl
get_or-xor [] (y ∷ ys) i e = absurd (omega arith)
get_or-xor (x ∷ xs) [] i e = absurd (omega arith)
get_or-xor (x ∷ xs) (y ∷ ys) zero e = refl
get_or-xor (x ∷ xs) (y ∷ ys) (suc i) e = get_or-xor xs ys i (omega arith)

pub IsBlock-xor : (v : ℕ) (xs ys : List ℕ) → IsBlock v xs → IsBlock v ys → IsBlock v (add_bytes xs ys)
IsBlock-xor v xs ys hx hy =
    let e : length xs ≡ length ys = hx.size ∙ sym hy.size in
    record {
      size = length-xor xs ys e ∙ hx.size;
      bytes = λ i. rw (get_or-xor xs ys i e) (xor_of_8 _ _ (hx.bytes i) (hy.bytes i));
    }

-- ---- bytes
pub IsBytes-take : (n : ℕ) (xs : List ℕ) → IsBytes xs → IsBytes (take n xs)
IsBytes-take n xs h = λ i. elim (cases_lt i n) [
  | inl lt ↦ rw (get_or-take n xs i 0 lt) (h i)
  | inr ge ↦
      let past : length (take n xs) ≤ i = omega (arith, length-take n xs) in
      rw (get_or_past (take n xs) i 0 past) (lit< tt)
]

pub IsBytes-drop : (n : ℕ) (xs : List ℕ) → IsBytes xs → IsBytes (drop n xs)
IsBytes-drop n xs h = λ i. rw (get_or-drop n xs i 0) (h (n + i))

pub IsBytes-append : (xs ys : List ℕ) → IsBytes xs → IsBytes ys → IsBytes (xs ++ ys)
IsBytes-append xs ys hx hy = λ i. elim (cases_lt i (length xs)) [
  | inl lt ↦ rw (get_or_append_left xs ys 0 i lt) (hx i)
  | inr ge ↦ rw (get_or-append_right xs ys (length xs) i 0 refl ge) (hy (i - length xs))
]

-- ---- blocks
width : (v k : ℕ) → v * k + v - v * k ≡ v
width v k = omega arith

pub block-is : (v : ℕ) (xs : List ℕ) (k : ℕ) → block v xs k ≡ take v (drop (v * k) xs)
block-is v xs k = ap (λ n. take n (drop (v * k) xs)) (width v k)

pub length-block : (v : ℕ) (xs : List ℕ) (k : ℕ) → v * k + v ≤ length xs → length (block v xs k) ≡ v
length-block v xs k h = ap length (block-is v xs k) ∙ length-take v (drop (v * k) xs) ∙ omega (arith, length-drop (v * k) xs)

-- a block that lies in the front of a joined list
pub block-front : (v : ℕ) (xs ys : List ℕ) (k : ℕ) → v * k + v ≤ length xs → block v (xs ++ ys) k ≡ block v xs k
block-front v xs ys k h =
    let low : v * k ≤ length xs = omega arith in
    let room : v ≤ length (drop (v * k) xs) = omega (arith, length-drop (v * k) xs) in
    block-is v (xs ++ ys) k ∙ ap (take v) (drop-append-le (v * k) xs ys low)
    ∙ take-append-le v (drop (v * k) xs) ys room ∙ sym (block-is v xs k)

-- the block that is joined to whole blocks
pub block-last : (v : ℕ) (xs ys : List ℕ) (k : ℕ) → length xs ≡ v * k → length ys ≡ v → block v (xs ++ ys) k ≡ ys
block-last v xs ys k h l =
    block-is v (xs ++ ys) k ∙ ap (take v) (drop_at xs ys (v * k) h) ∙ take_all v ys (omega arith)

pub IsBlock-block : (v : ℕ) (xs : List ℕ) (k : ℕ) → v * k + v ≤ length xs → IsBytes xs → IsBlock v (block v xs k)
IsBlock-block v xs k h b = record {
  size = length-block v xs k h;
  bytes = λ i. IsBytes-take (v * k + v - v * k) (drop (v * k) xs) (IsBytes-drop (v * k) xs b) i;
}
