-- The steps of a round on four words: the tables by computing, one column, and all four.
use Rattle.std.proofs.Common.{◌≡◌, ℕ, ◌/◌, ◌%◌, ◌^◌, ◌<◌, List, [], ◌∷◌, ◌++◌, map, take, drop, slice_index, refl, ap, ◌∙◌, arith, bit_xor}
use Rattle.std.specs.Int.{byte_at, from_be_bytes, to_be_bytes, w32, w64}
use Rattle.picky_contract.specs.Sums.{add_bytes}
use Rattle.picky_aes.specs.Cipher.{column_product, mix_columns, shift_rows, sub_bytes}
use Rattle.picky_aes.specs.Field.{product, substitute}
use Rattle.picky_aes.specs.Words.{bytes_of}
use Rattle.picky_aes.specs.declared.tables.TheConstants.{INVERSE_SBOX, ROUND, SBOX, UNROUND}
use Rattle.picky_aes.proofs.Columns.{sum4, sum4-rotate}
use Rattle.picky_aes.proofs.Linear.{product-lt}
use Rattle.picky_aes.proofs.Table.{INVERSE_SBOX-lt, SBOX-substitute, at_bytes, substitute-lt}
use Rattle.picky_aes.proofs.WordBytes.{bytes-of_four_twice, bytes-xor, low_word-bytes, low_word-shifted}

-- ---- the tables
ROUND-number : (b : ℕ) → b < 256 → slice_index ROUND b ≡ from_be_bytes w64 (map (λ p. product p (slice_index SBOX b)) (2 ∷ 1 ∷ 1 ∷ 3 ∷ 2 ∷ 1 ∷ 1 ∷ 3 ∷ []))
unfolding product
ROUND-number = at_bytes (λ b. slice_index ROUND b) (λ b. from_be_bytes w64 (map (λ p. product p (slice_index SBOX b)) (2 ∷ 1 ∷ 1 ∷ 3 ∷ 2 ∷ 1 ∷ 1 ∷ 3 ∷ []))) refl

UNROUND-number : (b : ℕ) → b < 256 → slice_index UNROUND b ≡ from_be_bytes w64 (map (λ p. product p (slice_index INVERSE_SBOX b)) (14 ∷ 9 ∷ 13 ∷ 11 ∷ 14 ∷ 9 ∷ 13 ∷ 11 ∷ []))
unfolding product
UNROUND-number = at_bytes (λ b. slice_index UNROUND b) (λ b. from_be_bytes w64 (map (λ p. product p (slice_index INVERSE_SBOX b)) (14 ∷ 9 ∷ 13 ∷ 11 ∷ 14 ∷ 9 ∷ 13 ∷ 11 ∷ []))) refl

pub ROUND-is : (b : ℕ) → b < 256 → to_be_bytes w64 (slice_index ROUND b) ≡ map (λ p. product p (substitute b)) (2 ∷ 1 ∷ 1 ∷ 3 ∷ 2 ∷ 1 ∷ 1 ∷ 3 ∷ [])
ROUND-is b h =
    let s : ℕ = substitute b in
    let hs : s < 256 = substitute-lt b h in
    bytes-of_four_twice (product 2 s) (product 1 s) (product 1 s) (product 3 s) (slice_index ROUND b) (product-lt 2 s hs) (product-lt 1 s hs) (product-lt 1 s hs) (product-lt 3 s hs)
    (ROUND-number b h ∙ ap (λ t. from_be_bytes w64 (map (λ p. product p t) (2 ∷ 1 ∷ 1 ∷ 3 ∷ 2 ∷ 1 ∷ 1 ∷ 3 ∷ []))) (SBOX-substitute b h))

pub UNROUND-is : (b : ℕ) → b < 256 → to_be_bytes w64 (slice_index UNROUND b) ≡ map (λ p. product p (slice_index INVERSE_SBOX b)) (14 ∷ 9 ∷ 13 ∷ 11 ∷ 14 ∷ 9 ∷ 13 ∷ 11 ∷ [])
UNROUND-is b h =
    let s : ℕ = slice_index INVERSE_SBOX b in
    let hs : s < 256 = INVERSE_SBOX-lt b h in
    bytes-of_four_twice (product 14 s) (product 9 s) (product 13 s) (product 11 s) (slice_index UNROUND b) (product-lt 14 s hs) (product-lt 9 s hs) (product-lt 13 s hs) (product-lt 11 s hs)
    (UNROUND-number b h)

-- ---- one column
pub top-byte : (n : ℕ) → n < 2 ^ 32 → n / 16777216 ≡ byte_at 3 n
top-byte n h = omega arith

-- two words for each byte of a column, with that byte's products, shifted by the byte's row
pub column-bytes : (p0 p1 p2 p3 a b c d k l m n w x y z : ℕ)
    → to_be_bytes w64 k ≡ map (λ p. product p a) (p0 ∷ p1 ∷ p2 ∷ p3 ∷ p0 ∷ p1 ∷ p2 ∷ p3 ∷ [])
    → to_be_bytes w64 l ≡ map (λ p. product p b) (p0 ∷ p1 ∷ p2 ∷ p3 ∷ p0 ∷ p1 ∷ p2 ∷ p3 ∷ [])
    → to_be_bytes w64 m ≡ map (λ p. product p c) (p0 ∷ p1 ∷ p2 ∷ p3 ∷ p0 ∷ p1 ∷ p2 ∷ p3 ∷ [])
    → to_be_bytes w64 n ≡ map (λ p. product p d) (p0 ∷ p1 ∷ p2 ∷ p3 ∷ p0 ∷ p1 ∷ p2 ∷ p3 ∷ [])
    → w ≡ k % 2 ^ 32 → x ≡ n / 2 ^ 24 % 2 ^ 32 → y ≡ m / 2 ^ 16 % 2 ^ 32 → z ≡ l / 2 ^ 8 % 2 ^ 32
    → to_be_bytes w32 (bit_xor (bit_xor (bit_xor w x) y) z) ≡ map (column_product (p0 ∷ p1 ∷ p2 ∷ p3 ∷ []) (a ∷ b ∷ c ∷ d ∷ []) 0) (0 ∷ 1 ∷ 2 ∷ 3 ∷ [])
column-bytes p0 p1 p2 p3 a b c d k l m n w x y z ek el em en ew ex ey ez =
    let at_w : to_be_bytes w32 w ≡ product p0 a ∷ product p1 a ∷ product p2 a ∷ product p3 a ∷ [] =
    ap (to_be_bytes w32) ew ∙ low_word-bytes k ∙ ap (drop 4) ek in
    let at_x : to_be_bytes w32 x ≡ product p1 d ∷ product p2 d ∷ product p3 d ∷ product p0 d ∷ [] =
    ap (to_be_bytes w32) ex ∙ low_word-shifted n 24 ∙ ap (λ t. take 4 (drop 1 t)) en in
    let at_y : to_be_bytes w32 y ≡ product p2 c ∷ product p3 c ∷ product p0 c ∷ product p1 c ∷ [] =
    ap (to_be_bytes w32) ey ∙ low_word-shifted m 16 ∙ ap (λ t. take 4 (drop 2 t)) em in
    let at_z : to_be_bytes w32 z ≡ product p3 b ∷ product p0 b ∷ product p1 b ∷ product p2 b ∷ [] =
    ap (to_be_bytes w32) ez ∙ low_word-shifted l 8 ∙ ap (λ t. take 4 (drop 3 t)) el in
    let two : to_be_bytes w32 (bit_xor w x) ≡ bit_xor (product p0 a) (product p1 d) ∷ bit_xor (product p1 a) (product p2 d) ∷ bit_xor (product p2 a) (product p3 d) ∷ bit_xor (product p3 a) (product p0 d) ∷ [] =
    bytes-xor w x ∙ (λ i. add_bytes (at_w i) (at_x i)) in
    let three : to_be_bytes w32 (bit_xor (bit_xor w x) y) ≡ bit_xor (bit_xor (product p0 a) (product p1 d)) (product p2 c) ∷ bit_xor (bit_xor (product p1 a) (product p2 d)) (product p3 c) ∷ bit_xor (bit_xor (product p2 a) (product p3 d)) (product p0 c) ∷ bit_xor (bit_xor (product p3 a) (product p0 d)) (product p1 c) ∷ [] =
    bytes-xor (bit_xor w x) y ∙ (λ i. add_bytes (two i) (at_y i)) in
    let four : to_be_bytes w32 (bit_xor (bit_xor (bit_xor w x) y) z) ≡ sum4 (product p0 a) (product p1 d) (product p2 c) (product p3 b) ∷ sum4 (product p1 a) (product p2 d) (product p3 c) (product p0 b) ∷ sum4 (product p2 a) (product p3 d) (product p0 c) (product p1 b) ∷ sum4 (product p3 a) (product p0 d) (product p1 c) (product p2 b) ∷ [] =
    bytes-xor (bit_xor (bit_xor w x) y) z ∙ (λ i. add_bytes (three i) (at_z i)) in
    let at1 = sum4-rotate (product p1 a) (product p2 d) (product p3 c) (product p0 b) in
    let at2 = sum4-rotate (product p2 a) (product p3 d) (product p0 c) (product p1 b) ∙ sum4-rotate (product p1 b) (product p2 a) (product p3 d) (product p0 c) in
    let at3 = sum4-rotate (product p3 a) (product p0 d) (product p1 c) (product p2 b) ∙ sum4-rotate (product p2 b) (product p3 a) (product p0 d) (product p1 c) ∙ sum4-rotate (product p1 c) (product p2 b) (product p3 a) (product p0 d) in
    four ∙ (λ i. sum4 (product p0 a) (product p1 d) (product p2 c) (product p3 b) ∷ at1 i ∷ at2 i ∷ at3 i ∷ [])

-- ---- four columns
abbrev round_bytes : ℕ → ℕ → ℕ → ℕ → ℕ → List ℕ
round_bytes a b c d k = add_bytes (map (column_product (2 ∷ 1 ∷ 1 ∷ 3 ∷ []) (substitute (byte_at 3 a) ∷ substitute (byte_at 2 b) ∷ substitute (byte_at 1 c) ∷ substitute (byte_at 0 d) ∷ []) 0) (0 ∷ 1 ∷ 2 ∷ 3 ∷ [])) (to_be_bytes w32 k)

abbrev last_bytes : ℕ → ℕ → ℕ → ℕ → ℕ → List ℕ
last_bytes a b c d k = add_bytes (substitute (byte_at 3 a) ∷ substitute (byte_at 2 b) ∷ substitute (byte_at 1 c) ∷ substitute (byte_at 0 d) ∷ []) (to_be_bytes w32 k)

module _ (a b c d k l m n e f g h : ℕ) where
  pub round-is : to_be_bytes w32 e ≡ round_bytes a b c d k → to_be_bytes w32 f ≡ round_bytes b c d a l
      → to_be_bytes w32 g ≡ round_bytes c d a b m → to_be_bytes w32 h ≡ round_bytes d a b c n
      → bytes_of (e ∷ f ∷ g ∷ h ∷ []) ≡ add_bytes (mix_columns (shift_rows (sub_bytes (bytes_of (a ∷ b ∷ c ∷ d ∷ []))))) (bytes_of (k ∷ l ∷ m ∷ n ∷ []))
  round-is ee ef eg eh = λ i. ee i ++ (ef i ++ (eg i ++ eh i))

  pub last-is : to_be_bytes w32 e ≡ last_bytes a b c d k → to_be_bytes w32 f ≡ last_bytes b c d a l
      → to_be_bytes w32 g ≡ last_bytes c d a b m → to_be_bytes w32 h ≡ last_bytes d a b c n
      → bytes_of (e ∷ f ∷ g ∷ h ∷ []) ≡ add_bytes (shift_rows (sub_bytes (bytes_of (a ∷ b ∷ c ∷ d ∷ [])))) (bytes_of (k ∷ l ∷ m ∷ n ∷ []))
  last-is ee ef eg eh = λ i. ee i ++ (ef i ++ (eg i ++ eh i))
