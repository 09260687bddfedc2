-- A text over and over, byte by byte.
use Rattle.std.proofs.Common.{◌≡◌, ℕ, ◌+◌, ◌*◌, ◌%◌, ◌≤◌, List, [], ◌∷◌, ◌++◌, length, take, get_or, sym, ap, ◌∙◌, arith}
use Rattle.std.specs.Int.{div_ceil}
use Rattle.std.proofs.lemmas.List.{append_assoc}
use Rattle.std.proofs.lemmas.List.FromFn.{length-map-range_with_len, map-range_with_len_more, take-map-range_with_len}
use Rattle.picky_kdf.specs.Pkcs12Kdf.{cycled, repeated}

-- the byte at place i of a text over and over
abbrev pub byte_at : List ℕ → ℕ → ℕ
byte_at text i = get_or text (i % length text) 0

pub cycled_more : (text before now : List ℕ) (n : ℕ) (out : List ℕ) → out ≡ before ++ cycled text n → now ≡ out ++ byte_at text n ∷ [] → now ≡ before ++ cycled text (n + 1)
cycled_more text before now n out eo en =
    en ∙ ap (λ t. t ++ byte_at text n ∷ []) eo ∙ append_assoc before (cycled text n) (byte_at text n ∷ [])
    ∙ ap (λ t. before ++ t) (sym (map-range_with_len_more (byte_at text) 0 n n (omega arith)))

pub take-cycled : (text : List ℕ) (n k : ℕ) → k ≤ n → take k (cycled text n) ≡ cycled text k
take-cycled text n k h = take-map-range_with_len (byte_at text) 0 n k h

pub length-cycled : (text : List ℕ) (n : ℕ) → length (cycled text n) ≡ n
length-cycled text n = length-map-range_with_len (byte_at text) 0 n

pub length-repeated : (v : ℕ) (text : List ℕ) → length (repeated v text) ≡ div_ceil (length text) v * v
length-repeated v text = length-cycled text _
