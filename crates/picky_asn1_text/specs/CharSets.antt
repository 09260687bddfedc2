-- The character sets of the restricted character strings, as sets of byte lists (X.680, clause 41; X.690, 8.23).
use Rattle.std.specs.Prelude.{◌≡◌, ℕ, ◌<◌, ◌⊎◌, List, All, Contains, codes}
use Rattle.std.specs.Int.{IsInRange}

abbrev pub IsDigit : ℕ → Type 0
IsDigit b = IsInRange 0x30 0x39 b

abbrev pub IsCapitalLetter : ℕ → Type 0
IsCapitalLetter b = IsInRange 0x41 0x5A b

abbrev pub IsSmallLetter : ℕ → Type 0
IsSmallLetter b = IsInRange 0x61 0x7A b

-- the signs of PrintableString, space among them
abbrev pub IsPrintableSign : ℕ → Type 0
IsPrintableSign b = Contains (codes " '()+,-./:=?") b

-- NumericString: the digits and space
abbrev pub IsNumeric : List ℕ → Type 0
IsNumeric = All (λ b. IsDigit b ⊎ (b ≡ 0x20))

-- PrintableString: letters, digits and the signs
abbrev pub IsPrintable : List ℕ → Type 0
IsPrintable = All (λ b. IsCapitalLetter b ⊎ IsSmallLetter b ⊎ IsDigit b ⊎ IsPrintableSign b)

-- IA5String: the 128 codes of the International Reference Alphabet
abbrev pub IsIa5 : List ℕ → Type 0
IsIa5 = All (λ b. b < 0x80)
