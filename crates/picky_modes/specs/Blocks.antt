-- Blocks of bytes, as the modes of operation use them (NIST SP 800-38A, 4).
use Rattle.std.specs.Prelude.{◌≡◌, ℕ, ◌+◌, ◌*◌, ◌<◌, List, length, slice_index, slice_range}

-- each entry is a byte
abbrev pub IsBytes : List ℕ → Type 0
IsBytes xs = (i : ℕ) → slice_index xs i < 256

-- a block of v bytes
pub record IsBlock (v : ℕ) (xs : List ℕ) : Type 0 where
  pub size : length xs ≡ v
  pub bytes : IsBytes xs

-- the block number k, counted from 0, of the blocks of v bytes that xs is made of
abbrev pub block : ℕ → List ℕ → ℕ → List ℕ
block v xs k = slice_range xs (v * k) (v * k + v)
