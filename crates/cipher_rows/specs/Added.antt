-- The block cipher that these rows hand in: a key is added to a block of eight bytes, over and over.
use Rattle.std.specs.Prelude.{ℕ, ◌%◌, List, length, map, slice_index, bit_xor}
use Rattle.std.specs.List.{range_with_len}

-- the sums of a block's bytes and the key's, over and over
unfoldable pub added : List ℕ → List ℕ → List ℕ
added key block = map (λ i. bit_xor (slice_index block i) (slice_index key (i % length key))) (range_with_len 0 8)
