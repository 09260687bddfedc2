-- BMPString: characters of the Basic Multilingual Plane, each two bytes, the higher first (X.680, 41.15; X.690, 8.23).
use Rattle.std.specs.Prelude.{◌≡◌, ℕ, ◌/◌, ◌%◌, ◌<◌, ◌⊎◌, List, [], ◌∷◌, All, chars}
use Rattle.std.specs.Int.{IsInRange}

-- a character of the plane: no surrogate, and at most U+FFFF
abbrev pub IsBmpCharacter : ℕ → Type 0
IsBmpCharacter c = (c < 0xD800) ⊎ IsInRange 0xE000 0xFFFF c

-- the bytes of these characters
abbrev pub two_bytes_each : List ℕ → List ℕ
two_bytes_each [] = []
two_bytes_each (c ∷ cs) = c / 0x100 ∷ c % 0x100 ∷ two_bytes_each cs

-- the bytes are those of some characters of the plane
abbrev pub IsBmp : List ℕ → Type 0
IsBmp bytes = (characters : List ℕ) × All IsBmpCharacter characters × (bytes ≡ two_bytes_each characters)

-- no character of this UTF-8 text is above U+FFFF
abbrev pub IsWithinPlane : List ℕ → Type 0
IsWithinPlane text = All (λ c. c < 0x1_0000) (chars text)

-- the bytes are those of the characters of this UTF-8 text
abbrev pub IsBmpOf : List ℕ → List ℕ → Type 0
IsBmpOf text bytes = bytes ≡ two_bytes_each (chars text)
