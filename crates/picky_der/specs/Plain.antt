-- The contents octets of NULL, BOOLEAN and UTF8String (X.690 sections 8.8, 8.2 with 11.1, and 8.23).
use Rattle.std.specs.Prelude.{◌≡◌, ℕ, ◌==◌, Bool, true, false, if◌then◌else◌, List, [], ◌∷◌, Result, Ok, Err}
use Rattle.std.specs.Str.{IsUtf8, is_utf8}
use Rattle.picky_der.specs.declared.fault.DerError.{DerError}
use Rattle.picky_der.specs.declared.fault.DerError.TheVariants.{BadValue}
use Rattle.picky_der.specs.Primitive.{Contents}

-- NULL has no contents octets
abbrev pub null_of : List ℕ → Result (Unit {0}) DerError
null_of [] = Ok tt
null_of (b ∷ bs) = Err BadValue

abbrev pub null_contents : Contents (Unit {0})
null_contents = record { in_form = λ _. Unit {0}; Octets = λ octets _. octets ≡ []; octets = λ _. []; decode = null_of }

-- BOOLEAN has one octet: 00 for false and FF for true
abbrev pub bool_octet : Bool → ℕ
bool_octet true = 255
bool_octet false = 0

abbrev pub bool_of : List ℕ → Result Bool DerError
bool_of [] = Err BadValue
bool_of (b ∷ []) = if b == 0 then Ok false else if b == 255 then Ok true else Err BadValue
bool_of (b ∷ c ∷ cs) = Err BadValue

abbrev pub bool_contents : Contents Bool
bool_contents = record { in_form = λ _. Unit {0}; Octets = λ octets x. octets ≡ bool_octet x ∷ []; octets = λ x. bool_octet x ∷ []; decode = bool_of }

-- a UTF8String's octets are its text in UTF-8
abbrev pub utf8_of : List ℕ → Result (List ℕ) DerError
utf8_of octets = if is_utf8 octets then Ok octets else Err BadValue

abbrev pub utf8_contents : Contents (List ℕ)
utf8_contents = record { in_form = IsUtf8; Octets = λ octets x. octets ≡ x; octets = λ x. x; decode = utf8_of }
