-- Numbers of a header text: seconds since 1970-01-01T00:00:00Z in u64 (draft-cavage-http-signatures-12, section 2.1.4 and 2.1.5).
use Rattle.std.specs.Prelude.{◌≡◌, ◌⊎◌, ℕ, ◌<◌, ◌^◌, List, ◌∷◌}
use Rattle.std.specs.Str.Parse.{IsNumeral, digits_value}

-- `+`
abbrev pub plus : ℕ
plus = 43

-- the text is one or more decimal digits, perhaps behind a plus, and their value is n, in u64
pub record IsNumber (text : List ℕ) (n : ℕ) : Type 0 where
  pub digits : List ℕ
  pub written : (text ≡ digits) ⊎ (text ≡ plus ∷ digits)
  pub numeral : IsNumeral 10 digits
  pub value : digits_value 10 digits ≡ n
  pub fits : n < 2 ^ 64
