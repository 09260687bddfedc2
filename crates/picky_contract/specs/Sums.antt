-- Sums of bytes, as ciphers and derivations take them (own).
use Rattle.std.specs.Prelude.{ℕ, List, [], ◌∷◌, bit_xor}

-- the sums of the bytes of two lists, place by place: exclusive or, as far as both lists go
abbrev pub add_bytes : List ℕ → List ℕ → List ℕ
add_bytes [] ys = []
add_bytes (x ∷ xs) [] = []
add_bytes (x ∷ xs) (y ∷ ys) = bit_xor x y ∷ add_bytes xs ys
