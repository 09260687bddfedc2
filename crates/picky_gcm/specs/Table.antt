-- The table by which GHASH multiplies four coefficients at a time. Each entry is a block as a pair of numbers.
use Rattle.std.specs.Prelude.{◌≡◌, ℕ, ◌<◌, Bool, List, ◌++◌, get_or}
use Rattle.std.specs.Int.{to_be_bytes, w64}
use Rattle.picky_gcm.specs.Polynomial.{Mul, block_of, coefficients, times_x}

-- the 16 bytes whose first eight and last eight are the pair's numbers, the highest byte of a number first
abbrev pub pair_bytes : ℕ × ℕ → List ℕ
pair_bytes p = to_be_bytes w64 p.0 ++ to_be_bytes w64 p.1

-- the polynomial of these bytes
unfoldable pub pair_block : ℕ × ℕ → List Bool
pair_block p = block_of (pair_bytes p)

-- entry i is the product of h and the polynomial whose coefficients of x ^ 0 to x ^ 3 are the four bits of i, the highest first
abbrev pub IsTable : List Bool → List (ℕ × ℕ) → Type 0
IsTable h entries = (i : ℕ) → i < 16 → pair_block (get_or entries i (0, 0)) ≡ Mul (coefficients 4 i) h

-- x ^ 4 times a block
abbrev pub times_x4 : List Bool → List Bool
times_x4 v = times_x (times_x (times_x (times_x v)))

-- entry i is x ^ 4 times what entry i of the table is
abbrev pub IsMoved : List Bool → List (ℕ × ℕ) → Type 0
IsMoved h entries = (i : ℕ) → i < 16 → pair_block (get_or entries i (0, 0)) ≡ times_x4 (Mul (coefficients 4 i) h)
