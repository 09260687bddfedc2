-- Words of 32 bits as bytes, the highest first. A state is four words, one for each column.
use Rattle.std.specs.Prelude.{◌≡◌, ℕ, ◌<◌, List, [], ◌∷◌, map, slice_index}
use Rattle.std.specs.List.{flat_map}
use Rattle.std.specs.Int.{to_be_bytes, w32}
use Rattle.picky_aes.specs.Cipher.{column_product}

-- the bytes of some words
abbrev pub bytes_of : List ℕ → List ℕ
bytes_of ws = flat_map (to_be_bytes w32) ws

-- each of 60 words, as a column, is InvMixColumns of the word of a key schedule at its place (FIPS 197, 5.3.3 and 5.3.5)
pub record IsUnmixed (keys words : List ℕ) : Type 0 where
  pub columns : (i : ℕ) → i < 60 → to_be_bytes w32 (slice_index words i)
      ≡ map (column_product (14 ∷ 9 ∷ 13 ∷ 11 ∷ []) (to_be_bytes w32 (slice_index keys i)) 0) (0 ∷ 1 ∷ 2 ∷ 3 ∷ [])
