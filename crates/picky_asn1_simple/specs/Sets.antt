-- The contents octets of restricted character strings: the bytes of the string, which are in its set (X.690 section 8.23).
use Rattle.std.specs.Prelude.{◌≡◌, ℕ, ◌+◌, ◌*◌, ◌==◌, ◌||◌, ◌&&◌, Bool, true, false, nat_lt, if◌then◌else◌, List, [], ◌∷◌, codes, Result, Ok, Err}
use Rattle.std.specs.List.{list_all, list_any}
use Rattle.std.specs.Int.{is_in_range}
use Rattle.picky_der.specs.declared.fault.DerError.{DerError}
use Rattle.picky_der.specs.declared.fault.DerError.TheVariants.{BadValue}
use Rattle.picky_der.specs.Primitive.{Contents}

-- octets that pass a test, as themselves
abbrev pub tested_of : (List ℕ → Bool) → List ℕ → Result (List ℕ) DerError
tested_of test octets = if test octets then Ok octets else Err BadValue

-- the octets of a set, which a test decides
abbrev pub tested_contents : (List ℕ → Type 0) → (List ℕ → Bool) → Contents (List ℕ)
tested_contents InSet test = record { in_form = InSet; Octets = λ octets x. octets ≡ x; octets = λ x. x; decode = tested_of test }

-- whether each octet is 00 to 7F
abbrev pub is_ia5 : List ℕ → Bool
is_ia5 octets = list_all (λ b. nat_lt b 0x80) octets

-- whether each octet is a digit or a space
abbrev pub is_numeric : List ℕ → Bool
is_numeric octets = list_all (λ b. is_in_range 0x30 0x39 b || b == 0x20) octets

-- whether the octet is a letter, a digit or a sign of PrintableString
abbrev pub is_printable_octet : ℕ → Bool
is_printable_octet b =
    is_in_range 0x41 0x5A b || (is_in_range 0x61 0x7A b || (is_in_range 0x30 0x39 b || list_any (λ c. b == c) (codes " '()+,-./:=?")))

-- whether each octet is one of PrintableString
abbrev pub is_printable : List ℕ → Bool
is_printable octets = list_all is_printable_octet octets

-- whether this is a character of the Basic Multilingual Plane: no surrogate, and at most U+FFFF (X.680, 41.15)
abbrev pub is_bmp_character : ℕ → Bool
is_bmp_character c = nat_lt c 0xD800 || is_in_range 0xE000 0xFFFF c

-- whether the octets are pairs of octets of such characters, the higher first
abbrev pub is_bmp : List ℕ → Bool
is_bmp [] = true
is_bmp (high ∷ []) = false
is_bmp (high ∷ low ∷ rest) = (nat_lt low 0x100 && is_bmp_character (high * 0x100 + low)) && is_bmp rest
