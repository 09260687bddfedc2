-- The text of a date: the digits of its form and Z (X.680, clauses 46 and 47; X.690, 11.7 and 11.8; RFC 5280, 4.1.2.5).
use Rattle.std.specs.Prelude.{◌≡◌, ℕ, ◌+◌, ◌/◌, ◌%◌, ◌≤◌, List, [], ◌∷◌, ◌++◌, length, All, codes}
use Rattle.std.specs.Int.{IsInRange}
use Rattle.picky_asn1_date.specs.Moment.{Moment}

-- a number below 100 in two decimal digits
abbrev pub two_digits : ℕ → List ℕ
two_digits n = (48 + n / 10) ∷ (48 + n % 10) ∷ []

-- numbers in two digits each, and then Z
abbrev pub digits_and_z : List ℕ → List ℕ
digits_and_z [] = codes "Z"
digits_and_z (n ∷ ns) = two_digits n ++ digits_and_z ns

-- YYMMDDHHMMSSZ
abbrev pub utc_text : Moment → List ℕ
utc_text m = digits_and_z (m.year % 100 ∷ m.month ∷ m.day ∷ m.hour ∷ m.minute ∷ m.second ∷ [])

-- the years of UTCTime: YY from 50 means 19YY, below 50 it means 20YY
abbrev pub IsUtcYear : ℕ → Type 0
IsUtcYear year = IsInRange 1950 2049 year

-- YYYYMMDDHHMMSSZ
abbrev pub generalized_text : Moment → List ℕ
generalized_text m = digits_and_z (m.year / 100 ∷ m.year % 100 ∷ m.month ∷ m.day ∷ m.hour ∷ m.minute ∷ m.second ∷ [])

abbrev pub IsGeneralizedYear : ℕ → Type 0
IsGeneralizedYear year = year ≤ 9999

-- this many decimal digits, and then Z
abbrev pub IsDigitsAndZ : ℕ → List ℕ → Type 0
IsDigitsAndZ count bytes = (digits : List ℕ) × (length digits ≡ count) × All (IsInRange 48 57) digits × (bytes ≡ digits ++ codes "Z")
