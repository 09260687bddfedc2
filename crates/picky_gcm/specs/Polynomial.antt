-- Multiplication of blocks in GCM (SP 800-38D, 6.3). A block is a polynomial of 128 coefficients, a list of Bools with true for 1:
-- its leftmost bit, the highest of its first byte, is the coefficient of x ^ 0.
use Rattle.std.specs.Prelude.{ℕ, zero, suc, ◌+◌, ◌/◌, ◌%◌, ◌^◌, Bool, true, false, not, ◌&&◌, ◌==◌, if◌then◌else◌, List, [], ◌∷◌, map, length, get_or, take, replicate}
use Rattle.std.specs.List.{flat_map}

-- the sum of two coefficients
abbrev pub odd : Bool → Bool → Bool
odd true b = not b
odd false b = b

-- the sum of two polynomials
abbrev pub plus : List Bool → List Bool → List Bool
plus [] q = q
plus (a ∷ p) [] = a ∷ p
plus (a ∷ p) (b ∷ q) = odd a b ∷ plus p q

-- a coefficient times a polynomial
abbrev pub scale : Bool → List Bool → List Bool
scale a q = map (λ b. a && b) q

-- the product of two polynomials
abbrev pub product : List Bool → List Bool → List Bool
product [] q = []
product (a ∷ p) q = plus (scale a q) (false ∷ product p q)

-- so many coefficients 0
unfoldable pub zeros : ℕ → List Bool
zeros n = replicate n false

-- 1 + x + x ^ 2 + x ^ 7, which x ^ 128 leaves modulo 1 + x + x ^ 2 + x ^ 7 + x ^ 128
unfoldable pub tail : List Bool
tail = true ∷ true ∷ true ∷ false ∷ false ∷ false ∷ false ∷ true ∷ replicate 120 false

-- x times a polynomial of 128 coefficients, with its term x ^ 128 cleared
unfoldable pub times_x : List Bool → List Bool
times_x v = plus (false ∷ take 127 v) (scale (get_or v 127 false) tail)

-- the remainder modulo 1 + x + x ^ 2 + x ^ 7 + x ^ 128: the terms are cleared one at a time, the top one first
unfoldable pub remainder : List Bool → List Bool
remainder [] = zeros 128
remainder (c ∷ p) = plus (c ∷ zeros 127) (times_x (remainder p))

-- the product of two blocks
unfoldable pub Mul : List Bool → List Bool → List Bool
Mul a b = remainder (product a b)

-- the n lowest bits of a number, the highest first
unfoldable pub coefficients : ℕ → ℕ → List Bool
coefficients zero x = []
coefficients (suc n) x = (x / 2 ^ n % 2 == 1) ∷ coefficients n x

-- the polynomial of a list of bytes
abbrev pub block_of : List ℕ → List Bool
block_of bytes = flat_map (coefficients 8) bytes

-- the number whose bits these are, the highest first
abbrev pub number : List Bool → ℕ
number [] = 0
number (c ∷ p) = (if c then 2 ^ length p else 0) + number p

-- the bytes of a polynomial, eight coefficients a byte
abbrev pub bytes_of : List Bool → List ℕ
bytes_of (a ∷ b ∷ c ∷ d ∷ e ∷ f ∷ g ∷ h ∷ p) = number (a ∷ b ∷ c ∷ d ∷ e ∷ f ∷ g ∷ h ∷ []) ∷ bytes_of p
bytes_of p = []
