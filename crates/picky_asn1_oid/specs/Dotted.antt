-- Numbers in decimal joined by dots (own).
use Rattle.std.specs.Prelude.{◌≡◌, ◌≢◌, ℕ, List, [], ◌∷◌, All}
use Rattle.std.specs.Fmt.{decimal}
use Rattle.picky_asn1_oid.specs.Arcs.{FitsArc, text_of}

-- the number fits 128 bits, and the text is its decimal digits without leading zeros
abbrev pub IsDecimalOf : List ℕ → ℕ → Type 0
IsDecimalOf text number = FitsArc number × (decimal number ≡ text)

-- there are numbers, each fits 128 bits, and the text is all of them joined by dots
abbrev pub AreDottedOf : List ℕ → List ℕ → Type 0
AreDottedOf text numbers = (numbers ≢ []) × All FitsArc numbers × (text_of numbers ≡ text)

-- a dot and a number
abbrev pub dotted : ℕ → List ℕ
dotted number = 46 ∷ decimal number
