-- The steps that undo those of a round, on four words: one column, and all four.
use Rattle.std.proofs.Common.{◌≡◌, ◌≢◌, ℕ, suc, ◌+◌, ◌*◌, ◌/◌, ◌%◌, ◌<◌, List, [], ◌∷◌, ◌++◌, length, map, set, slice_index, refl, sym, ap, ◌∙◌, arith, inl, inr}
use Rattle.std.proofs.lemmas.Bool.{cases_lt}
use Rattle.std.proofs.lemmas.List.{get_or-set_other, get_or-set_same}
use Rattle.std.specs.Int.Bits.{xor_zero_r}
use Rattle.std.specs.Int.{byte_at, to_be_bytes, w32}
use Rattle.std.specs.List.{range_with_len}
use Rattle.picky_contract.specs.Sums.{add_bytes}
use Rattle.picky_aes.specs.Cipher.{IsBlock, column_product, round_key, rounds, shift_rows, sub_bytes, times_columns}
use Rattle.picky_aes.specs.Field.{substitute}
use Rattle.picky_aes.specs.Words.{bytes_of}
use Rattle.picky_aes.specs.declared.tables.TheConstants.{INVERSE_SBOX}
use Rattle.picky_aes.proofs.Columns.{products-xor}
use Rattle.picky_aes.proofs.Inverse.{HasKeys, IsBlock-from, first-back, round-back}
use Rattle.picky_aes.proofs.Table.{INVERSE_SBOX-lt, INVERSE_SBOX-substitute, substitute-INVERSE_SBOX}
use Rattle.picky_aes.proofs.WordBytes.{byte-lt, bytes_of-lt}

-- ---- one column
abbrev pub unsub_bytes : ℕ → ℕ → ℕ → ℕ → List ℕ
unsub_bytes a b c d = slice_index INVERSE_SBOX (byte_at 3 a) ∷ slice_index INVERSE_SBOX (byte_at 2 b) ∷ slice_index INVERSE_SBOX (byte_at 1 c) ∷ slice_index INVERSE_SBOX (byte_at 0 d) ∷ []

abbrev pub unmixed_bytes : List ℕ → List ℕ
unmixed_bytes s = map (column_product (14 ∷ 9 ∷ 13 ∷ 11 ∷ []) s 0) (0 ∷ 1 ∷ 2 ∷ 3 ∷ [])

unsub-lt : (n : ℕ) → slice_index INVERSE_SBOX (n % 256) < 256
unsub-lt n = INVERSE_SBOX-lt (n % 256) (byte-lt n)

-- a round key's column may be added before InvMixColumns
unround-column : (a b c d k key e : ℕ) → to_be_bytes w32 k ≡ unmixed_bytes (to_be_bytes w32 key) → to_be_bytes w32 e ≡ add_bytes (unmixed_bytes (unsub_bytes a b c d)) (to_be_bytes w32 k)
    → to_be_bytes w32 e ≡ unmixed_bytes (add_bytes (unsub_bytes a b c d) (to_be_bytes w32 key))
unround-column a b c d k key e ek ee =
    let s0 = slice_index INVERSE_SBOX (byte_at 3 a) in
    let s1 = slice_index INVERSE_SBOX (byte_at 2 b) in
    let s2 = slice_index INVERSE_SBOX (byte_at 1 c) in
    let s3 = slice_index INVERSE_SBOX (byte_at 0 d) in
    let h0 = unsub-lt (a / 16777216) in
    let h1 = unsub-lt (b / 65536) in
    let h2 = unsub-lt (c / 256) in
    let h3 = unsub-lt d in
    let t0 = byte_at 3 key in
    let t1 = byte_at 2 key in
    let t2 = byte_at 1 key in
    let t3 = byte_at 0 key in
    let l0 = byte-lt (key / 16777216) in
    let l1 = byte-lt (key / 65536) in
    let l2 = byte-lt (key / 256) in
    let l3 = byte-lt key in
    ee ∙ ap (add_bytes (unmixed_bytes (unsub_bytes a b c d))) ek
    ∙ (λ i. products-xor 14 9 13 11 s0 s3 s2 s1 t0 t3 t2 t1 h0 h3 h2 h1 l0 l3 l2 l1 i
    ∷ products-xor 14 9 13 11 s1 s0 s3 s2 t1 t0 t3 t2 h1 h0 h3 h2 l1 l0 l3 l2 i
    ∷ products-xor 14 9 13 11 s2 s1 s0 s3 t2 t1 t0 t3 h2 h1 h0 h3 l2 l1 l0 l3 i
    ∷ products-xor 14 9 13 11 s3 s2 s1 s0 t3 t2 t1 t0 h3 h2 h1 h0 l3 l2 l1 l0 i ∷ [])

-- ---- four columns
-- the state before SubBytes and ShiftRows
abbrev unsubbed : ℕ → ℕ → ℕ → ℕ → List ℕ
unsubbed a b c d = map (λ i. slice_index INVERSE_SBOX (slice_index (bytes_of (a ∷ b ∷ c ∷ d ∷ [])) ((i + 12 * (i % 4)) % 16))) (range_with_len 0 16)

IsBlock-unsubbed : (a b c d : ℕ) → IsBlock (unsubbed a b c d)
IsBlock-unsubbed a b c d =
    IsBlock-from (λ i. slice_index INVERSE_SBOX (slice_index (bytes_of (a ∷ b ∷ c ∷ d ∷ [])) ((i + 12 * (i % 4)) % 16)))
    (λ i. INVERSE_SBOX-lt _ (bytes_of-lt (a ∷ b ∷ c ∷ d ∷ []) _))

sub-unsubbed : (a b c d : ℕ) → shift_rows (sub_bytes (unsubbed a b c d)) ≡ bytes_of (a ∷ b ∷ c ∷ d ∷ [])
sub-unsubbed a b c d =
    let at : (n : ℕ) → substitute (slice_index INVERSE_SBOX (n % 256)) ≡ n % 256 = λ n. INVERSE_SBOX-substitute (n % 256) (byte-lt n) in
    (λ i. at (a / 16777216) i ∷ at (a / 65536) i ∷ at (a / 256) i ∷ at a i ∷ at (b / 16777216) i ∷ at (b / 65536) i ∷ at (b / 256) i ∷ at b i
    ∷ at (c / 16777216) i ∷ at (c / 65536) i ∷ at (c / 256) i ∷ at c i ∷ at (d / 16777216) i ∷ at (d / 65536) i ∷ at (d / 256) i ∷ at d i ∷ [])

module _ (w : List ℕ) (count : ℕ) (keys : HasKeys w count) (a b c d k l m n e f g h : ℕ) where
  -- one full round undone: o, p, q, t are the columns of its key after InvMixColumns
  pub unround-back : (o p q t r s : ℕ) → s ≡ suc r → r < count → bytes_of (k ∷ l ∷ m ∷ n ∷ []) ≡ round_key w s
      → to_be_bytes w32 o ≡ unmixed_bytes (to_be_bytes w32 k) → to_be_bytes w32 p ≡ unmixed_bytes (to_be_bytes w32 l)
      → to_be_bytes w32 q ≡ unmixed_bytes (to_be_bytes w32 m) → to_be_bytes w32 t ≡ unmixed_bytes (to_be_bytes w32 n)
      → to_be_bytes w32 e ≡ add_bytes (unmixed_bytes (unsub_bytes a d c b)) (to_be_bytes w32 o)
      → to_be_bytes w32 f ≡ add_bytes (unmixed_bytes (unsub_bytes b a d c)) (to_be_bytes w32 p)
      → to_be_bytes w32 g ≡ add_bytes (unmixed_bytes (unsub_bytes c b a d)) (to_be_bytes w32 q)
      → to_be_bytes w32 h ≡ add_bytes (unmixed_bytes (unsub_bytes d c b a)) (to_be_bytes w32 t)
      → (x : List ℕ) → shift_rows (sub_bytes (rounds w x r)) ≡ bytes_of (e ∷ f ∷ g ∷ h ∷ []) → shift_rows (sub_bytes (rounds w x s)) ≡ bytes_of (a ∷ b ∷ c ∷ d ∷ [])
  unround-back o p q t r s es lt ek eo ep eq et ee ef eg eh x ex =
      let all : bytes_of (e ∷ f ∷ g ∷ h ∷ []) ≡ times_columns (14 ∷ 9 ∷ 13 ∷ 11 ∷ []) (add_bytes (unsubbed a b c d) (bytes_of (k ∷ l ∷ m ∷ n ∷ []))) =
      λ i. unround-column a d c b o k e eo ee i ++ (unround-column b a d c p l f ep ef i ++ (unround-column c b a d q m g eq eg i ++ unround-column d c b a t n h et eh i)) in
      ap (λ j. shift_rows (sub_bytes (rounds w x j))) es
      ∙ round-back w (bytes_of (a ∷ b ∷ c ∷ d ∷ [])) (unsubbed a b c d) (bytes_of (e ∷ f ∷ g ∷ h ∷ [])) count r keys lt (IsBlock-unsubbed a b c d) (sub-unsubbed a b c d)
      (all ∙ ap (λ z. times_columns (14 ∷ 9 ∷ 13 ∷ 11 ∷ []) (add_bytes (unsubbed a b c d) z)) (ek ∙ ap (round_key w) es)) x ex

  pub first-words-back : bytes_of (k ∷ l ∷ m ∷ n ∷ []) ≡ round_key w 0
      → to_be_bytes w32 e ≡ add_bytes (unsub_bytes a d c b) (to_be_bytes w32 k) → to_be_bytes w32 f ≡ add_bytes (unsub_bytes b a d c) (to_be_bytes w32 l)
      → to_be_bytes w32 g ≡ add_bytes (unsub_bytes c b a d) (to_be_bytes w32 m) → to_be_bytes w32 h ≡ add_bytes (unsub_bytes d c b a) (to_be_bytes w32 n)
      → (t : List ℕ) → t ≡ bytes_of (e ∷ f ∷ g ∷ h ∷ []) → shift_rows (sub_bytes (rounds w t 0)) ≡ bytes_of (a ∷ b ∷ c ∷ d ∷ [])
  first-words-back ek ee ef eg eh t et =
      let all : bytes_of (e ∷ f ∷ g ∷ h ∷ []) ≡ add_bytes (unsubbed a b c d) (bytes_of (k ∷ l ∷ m ∷ n ∷ [])) = λ i. ee i ++ (ef i ++ (eg i ++ eh i)) in
      first-back w (bytes_of (a ∷ b ∷ c ∷ d ∷ [])) (unsubbed a b c d) t count keys (IsBlock-unsubbed a b c d) (sub-unsubbed a b c d) (et ∙ all ∙ ap (add_bytes (unsubbed a b c d)) ek)

-- ---- InvMixColumns on words of a key schedule
-- the S-box makes up for its inverse in the table
module _ (column word : ℕ) where
  unsub-word : (i p j n : ℕ) (bs : List ℕ) → bs ≡ to_be_bytes w32 column → p ≡ substitute (slice_index bs i) → slice_index (to_be_bytes w32 column) i ≡ n % 256 → j ≡ p
      → slice_index INVERSE_SBOX j ≡ n % 256
  unsub-word i p j n bs eb ep en ej =
      ap (slice_index INVERSE_SBOX) (ej ∙ ep ∙ ap substitute (ap (λ l. slice_index l i) eb ∙ en)) ∙ substitute-INVERSE_SBOX (n % 256) (byte-lt n)

  add-zeros : (a b c d : ℕ) → add_bytes (a ∷ b ∷ c ∷ d ∷ []) (to_be_bytes w32 0) ≡ a ∷ b ∷ c ∷ d ∷ []
  add-zeros a b c d = λ i. xor_zero_r a i ∷ xor_zero_r b i ∷ xor_zero_r c i ∷ xor_zero_r d i ∷ []

  pub unmixed-column : (p q r s e : ℕ) (bs : List ℕ) → bs ≡ to_be_bytes w32 column
      → p ≡ substitute (slice_index bs 0) → q ≡ substitute (slice_index bs 1) → r ≡ substitute (slice_index bs 2) → s ≡ substitute (slice_index bs 3)
      → to_be_bytes w32 word ≡ p ∷ q ∷ r ∷ s ∷ [] → to_be_bytes w32 e ≡ add_bytes (unmixed_bytes (unsub_bytes word word word word)) (to_be_bytes w32 0)
      → to_be_bytes w32 e ≡ unmixed_bytes (to_be_bytes w32 column)
  unmixed-column p q r s e bs eb ep eq er es ew ee =
      let u : List ℕ = unsub_bytes word word word word in
      let e0 : slice_index INVERSE_SBOX (byte_at 3 word) ≡ byte_at 3 column = unsub-word 0 p _ (column / 16777216) bs eb ep refl (ap (λ l. slice_index l 0) ew) in
      let e1 : slice_index INVERSE_SBOX (byte_at 2 word) ≡ byte_at 2 column = unsub-word 1 q _ (column / 65536) bs eb eq refl (ap (λ l. slice_index l 1) ew) in
      let e2 : slice_index INVERSE_SBOX (byte_at 1 word) ≡ byte_at 1 column = unsub-word 2 r _ (column / 256) bs eb er refl (ap (λ l. slice_index l 2) ew) in
      let e3 : slice_index INVERSE_SBOX (byte_at 0 word) ≡ byte_at 0 column = unsub-word 3 s _ column bs eb es refl (ap (λ l. slice_index l 3) ew) in
      let p : List ℕ = 14 ∷ 9 ∷ 13 ∷ 11 ∷ [] in
      ee ∙ add-zeros (column_product p u 0 0) (column_product p u 0 1) (column_product p u 0 2) (column_product p u 0 3)
      ∙ (λ i. unmixed_bytes (e0 i ∷ e1 i ∷ e2 i ∷ e3 i ∷ []))

pub columns_more : (keys ws : List ℕ) (i w : ℕ) → i < length ws
    → ((k : ℕ) → k < i → to_be_bytes w32 (slice_index ws k) ≡ unmixed_bytes (to_be_bytes w32 (slice_index keys k)))
    → to_be_bytes w32 w ≡ unmixed_bytes (to_be_bytes w32 (slice_index keys i))
    → (k : ℕ) → k < i + 1 → to_be_bytes w32 (slice_index (set ws i w) k) ≡ unmixed_bytes (to_be_bytes w32 (slice_index keys k))
columns_more keys ws i w h before here k lt = elim (cases_lt k i) [
  | inl l ↦ let ne : k ≢ i = omega arith in ap (to_be_bytes w32) (get_or-set_other ws i k w 0 ne) ∙ before k l
  | inr g ↦
      let same : i ≡ k = omega arith in
      ap (λ j. to_be_bytes w32 (slice_index (set ws i w) j)) (sym same) ∙ ap (to_be_bytes w32) (get_or-set_same ws i w 0 h) ∙ here
      ∙ ap (λ j. unmixed_bytes (to_be_bytes w32 (slice_index keys j))) same
]
