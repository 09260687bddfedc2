-- Bytes in hexadecimal, upper case (ISO/IEC 9899 `%02X`).
use Rattle.std.specs.Prelude.{ℕ, ◌+◌, ◌/◌, ◌%◌, List, [], ◌∷◌, ◌++◌, if◌then◌else◌, nat_lt, codes}
use Rattle.std.specs.List.{flat_map}

-- the digit of a number below 16
abbrev pub digit_of : ℕ → ℕ
digit_of n = if nat_lt n 10 then 48 + n else 55 + n

-- the two digits of a byte
abbrev pub hex_byte : ℕ → List ℕ
hex_byte b = digit_of (b / 16) ∷ digit_of (b % 16) ∷ []

-- the digits of bytes, one after another
abbrev pub hex_bytes : List ℕ → List ℕ
hex_bytes bytes = flat_map hex_byte bytes

-- `0x` and the digits
abbrev pub hex_text : List ℕ → List ℕ
hex_text bytes = codes "0x" ++ hex_bytes bytes
