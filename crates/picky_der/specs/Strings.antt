-- The contents octets of INTEGERs of any size and of OCTET STRINGs (X.690 sections 8.3 and 8.7).
use Rattle.std.specs.Prelude.{◌≡◌, ℕ, Bool, true, false, not, if◌then◌else◌, List, [], ◌∷◌, Result, Ok, Err}
use Rattle.picky_asn1_bits.specs.Integer.{IsShortest, repeats_sign}
use Rattle.picky_der.specs.declared.fault.DerError.{DerError}
use Rattle.picky_der.specs.declared.fault.DerError.TheVariants.{BadValue}
use Rattle.picky_der.specs.Primitive.{Contents}

-- whether there is an octet, and the first nine bits aren't all alike
abbrev pub is_shortest : List ℕ → Bool
is_shortest [] = false
is_shortest (b ∷ []) = true
is_shortest (b ∷ c ∷ bs) = not (repeats_sign b c)

-- an INTEGER's octets, where they are the fewest
abbrev pub integer_of : List ℕ → Result (List ℕ) DerError
integer_of octets = if is_shortest octets then Ok octets else Err BadValue

-- INTEGERs of any size, seen as their octets; a shortest spelling is the only one of its number (a law of picky_asn1_bits)
abbrev pub integer_contents : Contents (List ℕ)
integer_contents = record { in_form = IsShortest; Octets = λ octets x. octets ≡ x; octets = λ x. x; decode = integer_of }

-- an OCTET STRING's octets
abbrev pub octets_of : List ℕ → Result (List ℕ) DerError
octets_of octets = Ok octets

abbrev pub octets_contents : Contents (List ℕ)
octets_contents = record { in_form = λ _. Unit {0}; Octets = λ octets x. octets ≡ x; octets = λ x. x; decode = octets_of }
