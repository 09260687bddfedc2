-- The hash function GHASH (SP 800-38D, 6.4) and what GCM hashes with it (7.1, steps 4 and 5).
use Rattle.std.specs.Prelude.{ℕ, ◌+◌, ◌-◌, ◌*◌, ◌/◌, ◌%◌, Bool, List, [], ◌∷◌, ◌++◌, length, map, replicate, slice_range}
use Rattle.std.specs.List.{range_with_len}
use Rattle.std.specs.Int.{to_be_bytes, w64}
use Rattle.picky_gcm.specs.Polynomial.{Mul, block_of, bytes_of, plus, zeros}

-- the hash of blocks after those whose hash is y, under the hash key h
unfoldable pub Ghash_from : List Bool → List Bool → List (List Bool) → List Bool
Ghash_from h y [] = y
Ghash_from h y (x ∷ xs) = Ghash_from h (Mul (plus y x) h) xs

-- the hash of blocks: zero of none, and of xs and x after it the product of Ghash h xs + x and h
abbrev pub Ghash : List Bool → List (List Bool) → List Bool
Ghash h xs = Ghash_from h (zeros 128) xs

-- bytes, and zeros after them up to a multiple of 16 in all
abbrev pub padded : List ℕ → List ℕ
padded bytes = bytes ++ replicate ((16 - length bytes % 16) % 16) 0

-- the blocks of bytes, 16 bytes a block
abbrev pub blocks : List ℕ → List (List Bool)
blocks bytes = map (λ k. block_of (slice_range bytes (16 * k) (16 * k + 16))) (range_with_len 0 (length bytes / 16))

-- the numbers of bits of the additional data and the text, 64 bits each
abbrev pub lengths : List ℕ → List ℕ → List ℕ
lengths aad text = to_be_bytes w64 (8 * length aad) ++ to_be_bytes w64 (8 * length text)

-- the hash of additional data and a text under a hash key, all as bytes
unfoldable pub hash_of : List ℕ → List ℕ → List ℕ → List ℕ
hash_of key aad text = bytes_of (Ghash (block_of key) (blocks (padded aad) ++ (blocks (padded text) ++ (block_of (lengths aad text) ∷ []))))
