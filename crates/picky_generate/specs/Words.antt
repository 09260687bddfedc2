-- The words from which texts are made (own; ChaCha20 by RFC 8439, section 2.3, with a 64-bit counter and stream 0).
use Rattle.std.specs.Prelude.{ℕ, List, ◌++◌, replicate}
use Rattle.std.specs.Int.{to_le_bytes, w64}
use Rattle.rand_chacha.specs.ChaCha.{key_of, word_at}

-- the 32 bytes of a seed: the number in little-endian order, and 24 bytes 00
abbrev pub seed_bytes : ℕ → List ℕ
seed_bytes seed = to_le_bytes w64 seed ++ replicate 24 0

-- word i of a seed, from 0: ChaCha20 has ten double rounds
abbrev pub word : ℕ → ℕ → ℕ
word seed i = word_at 10 (key_of (seed_bytes seed)) 0 i
