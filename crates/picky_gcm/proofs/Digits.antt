-- The coefficients of a pair of numbers are those of its bytes, and its bytes are those of its coefficients.
use Rattle.std.proofs.Common.{◌≡◌, ℕ, zero, suc, ◌+◌, ◌*◌, ◌/◌, ◌%◌, ◌^◌, ◌<◌, ◌≤◌, true, nat_eq, Bool, List, [], ◌∷◌, ◌++◌, length, get_or, slice_index, refl, sym, ap, ◌∙◌, arith, append_assoc, lit≤, lit<, mod-lt}
use Rattle.std.specs.Prelude.{◌==◌}
use Rattle.std.specs.Int.{bit_at, byte_at, bytes_high_first, from_be_bytes, to_be_bytes, w64}
use Rattle.std.proofs.lemmas.Bool.{agree_below_at, eqb-true}
use Rattle.std.proofs.lemmas.Grind.{flat_map-append}
use Rattle.std.proofs.lemmas.List.{append-nil}
use Rattle.std.proofs.lemmas.List.FromFn.{fill_by_all}
use Rattle.std.proofs.lemmas.Nat.{be_bytes_8, shr-shr, shr_high}
use Rattle.std.proofs.lemmas.Nat.Bits.{bit_at_cat_low}
use Rattle.picky_gcm.specs.Polynomial.{block_of, bytes_of, coefficients, number}
use Rattle.picky_gcm.specs.Table.{pair_block, pair_bytes}

-- ---- the coefficients of a number, joined
sum : (m n k : ℕ) → suc m + n ≡ suc k → k ≡ n + m
sum m n k e = omega arith

pub coefficients-add : (m n k x : ℕ) → m + n ≡ k → coefficients k x ≡ coefficients m (x / 2 ^ n) ++ coefficients n x
unfolding coefficients
coefficients-add zero n k x e = ap (λ j. coefficients j x) (omega arith)
coefficients-add (suc m) n zero x e = absurd (omega arith)
coefficients-add (suc m) n (suc k) x e =
    let head : bit_at x k ≡ bit_at (x / 2 ^ n) m =
    ap (λ j. bit_at x j) (sum m n k e) ∙ ap (λ y. y % 2) (sym (shr-shr x n m)) in
    λ i. (head i == 1) ∷ coefficients-add m n k x (omega arith) i

pub coefficients-low : (j n a b : ℕ) → j ≤ n → coefficients j (a * 2 ^ n + b) ≡ coefficients j b
unfolding coefficients
coefficients-low zero n a b h = refl
coefficients-low (suc j) n a b h = λ i. (bit_at_cat_low a n b j (omega arith) i == 1) ∷ coefficients-low j n a b (omega arith) i

-- ---- to bytes
eight : (x : ℕ) → x < 256 → number (coefficients 8 x) ≡ x
unfolding coefficients
eight x h = eqb-true _ _ (agree_below_at (λ b. nat_eq (number (coefficients 8 b)) b) (λ b. true) 256 x refl h)

lowest-byte : (x : ℕ) → number (coefficients 8 x) ≡ x % 256
lowest-byte x =
    let whole : x / 256 * 2 ^ 8 + x % 256 ≡ x = omega arith in
    ap (λ y. number (coefficients 8 y)) (sym whole) ∙ ap number (coefficients-low 8 8 (x / 256) (x % 256) (lit≤ tt)) ∙ eight (x % 256) (mod-lt x (lit< tt))

byte-first : (x : ℕ) (p : List Bool) → bytes_of (coefficients 8 x ++ p) ≡ number (coefficients 8 x) ∷ bytes_of p
unfolding coefficients
byte-first x p = refl

worth : (k : ℕ) → k < 17 → 256 ^ k ≡ 2 ^ (8 * k)
worth k h = eqb-true _ _ (agree_below_at (λ k. nat_eq (256 ^ k) (2 ^ (8 * k))) (λ k. true) 17 k refl h)

byte_at-is : (k n : ℕ) → k < 17 → byte_at k n ≡ n / 2 ^ (8 * k) % 256
byte_at-is zero n h = let e : n ≡ n / 1 = omega arith in ap (λ m. m % 256) e
byte_at-is (suc k) n h = ap (λ m. n / m % 256) (worth (suc k) h)

-- the k lowest bytes of a number
bytes-high : (k n : ℕ) (p : List Bool) → k < 17 → bytes_of (coefficients (8 * k) n ++ p) ≡ bytes_high_first k n ++ bytes_of p
unfolding coefficients
bytes-high zero n p h = refl
bytes-high (suc k) n p h =
    ap (λ c. bytes_of (c ++ p)) (coefficients-add 8 (8 * k) (8 * suc k) n (omega arith))
    ∙ ap bytes_of (append_assoc (coefficients 8 (n / 2 ^ (8 * k))) (coefficients (8 * k) n) p)
    ∙ byte-first (n / 2 ^ (8 * k)) (coefficients (8 * k) n ++ p)
    ∙ (λ i. (lowest-byte (n / 2 ^ (8 * k)) ∙ sym (byte_at-is k n (omega arith))) i ∷ bytes-high k n p (omega arith) i)

-- ---- from bytes
low-eight : (x : ℕ) → coefficients 8 (x % 256) ≡ coefficients 8 x
low-eight x = let whole : x / 256 * 2 ^ 8 + x % 256 ≡ x = omega arith in sym (ap (coefficients 8) (sym whole) ∙ coefficients-low 8 8 (x / 256) (x % 256) (lit≤ tt))

block-high : (k n : ℕ) → k < 17 → block_of (bytes_high_first k n) ≡ coefficients (8 * k) n
unfolding coefficients
block-high zero n h = refl
block-high (suc k) n h =
    (λ i. (ap (coefficients 8) (byte_at-is k n (omega arith)) ∙ low-eight (n / 2 ^ (8 * k))) i ++ block-high k n (omega arith) i)
    ∙ sym (coefficients-add 8 (8 * k) (8 * suc k) n (omega arith))

-- ---- pairs
pub pair-coefficients : (a b : ℕ) → pair_block (a, b) ≡ coefficients 64 a ++ coefficients 64 b
unfolding pair_block
pair-coefficients a b =
    flat_map-append (coefficients 8) (bytes_high_first 8 a) (bytes_high_first 8 b)
    ∙ (λ i. block-high 8 a (lit< tt) i ++ block-high 8 b (lit< tt) i)

pub pair-number : (a b n : ℕ) → b < 2 ^ 64 → n ≡ a * 2 ^ 64 + b → coefficients 128 n ≡ pair_block (a, b)
pair-number a b n h e =
    ap (coefficients 128) e
    ∙ coefficients-add 64 64 128 (a * 2 ^ 64 + b) refl
    ∙ (λ i. coefficients 64 (shr_high a 64 b h i) ++ coefficients-low 64 64 a b (lit≤ tt) i)
    ∙ sym (pair-coefficients a b)

pub pair-bytes : (p : ℕ × ℕ) → pair_bytes p ≡ bytes_of (pair_block p)
pair-bytes p =
    sym (ap bytes_of (pair-coefficients p.0 p.1)
    ∙ bytes-high 8 p.0 (coefficients 64 p.1) (lit< tt)
    ∙ ap (λ l. bytes_high_first 8 p.0 ++ l) (ap bytes_of (sym (append-nil (coefficients 64 p.1))) ∙ bytes-high 8 p.1 [] (lit< tt) ∙ append-nil (bytes_high_first 8 p.1)))

pub block-pair : (p : ℕ × ℕ) → block_of (pair_bytes p) ≡ pair_block p
unfolding pair_block
block-pair p = refl

-- ---- a block of bytes as a pair
record AreBytes (xs : List ℕ) : Type 0 where
  all : (i : ℕ) → get_or xs i 0 < 256

none-bytes : AreBytes []
none-bytes = record { all = λ i. lit< tt }

get-more : (x : ℕ) (xs : List ℕ) → x < 256 → AreBytes xs → (i : ℕ) → get_or (x ∷ xs) i 0 < 256
get-more x xs h t zero = h
get-more x xs h t (suc i) = t.all i

more-bytes : (x : ℕ) (xs : List ℕ) → x < 256 → AreBytes xs → AreBytes (x ∷ xs)
more-bytes x xs h t = record { all = get-more x xs h t }

-- eight places of a list of bytes
abbrev eight_at : List ℕ → ℕ → List ℕ
eight_at xs k = slice_index xs k ∷ slice_index xs (k + 1) ∷ slice_index xs (k + 2) ∷ slice_index xs (k + 3) ∷ slice_index xs (k + 4) ∷ slice_index xs (k + 5) ∷ slice_index xs (k + 6) ∷ slice_index xs (k + 7) ∷ []

eight-bytes : (xs : List ℕ) (k : ℕ) → ((i : ℕ) → slice_index xs i < 256) → AreBytes (eight_at xs k)
eight-bytes xs k h =
    more-bytes _ _ (h k) (more-bytes _ _ (h (k + 1)) (more-bytes _ _ (h (k + 2)) (more-bytes _ _ (h (k + 3))
    (more-bytes _ _ (h (k + 4)) (more-bytes _ _ (h (k + 5)) (more-bytes _ _ (h (k + 6)) (more-bytes _ _ (h (k + 7)) none-bytes)))))))

eight-number : (xs : List ℕ) (k n : ℕ) → ((i : ℕ) → slice_index xs i < 256) → n ≡ from_be_bytes w64 (eight_at xs k) → to_be_bytes w64 n ≡ eight_at xs k
eight-number xs k n h e = be_bytes_8 (eight_at xs k) n refl (eight-bytes xs k h).all e

pub pair-of : (xs : List ℕ) (a b : ℕ) → length xs ≡ 16 → ((i : ℕ) → slice_index xs i < 256)
    → a ≡ from_be_bytes w64 (eight_at xs 0) → b ≡ from_be_bytes w64 (eight_at xs 8) → pair_bytes (a, b) ≡ xs
pair-of xs a b l h ea eb =
    (λ i. eight-number xs 0 a h ea i ++ eight-number xs 8 b h eb i) ∙ sym (fill_by_all (slice_index xs) xs 16 0 l (λ k h. refl))
