-- The contents octets of BIT STRINGs: the count of unused bits in the last octet, and the octets of the bits (X.690 section 8.6.2).
use Rattle.std.specs.Prelude.{◌≡◌, ℕ, ◌^◌, ◌==◌, Bool, false, nat_lt, if◌then◌else◌, List, [], ◌∷◌, Result, Ok, Err}
use Rattle.picky_asn1_bits.specs.Bits.{IsBitString, bit_count}
use Rattle.picky_der.specs.declared.fault.DerError.{DerError}
use Rattle.picky_der.specs.declared.fault.DerError.TheVariants.{OutOfMemory}
use Rattle.picky_der.specs.Reading.{◌>>=◌}
use Rattle.picky_der.specs.Primitive.{Contents}
use Rattle.picky_asn1_simple.specs.Sets.{tested_of}

-- whether the first octet is a count from 0 to 7, and 0 where no octet follows
abbrev pub is_counted : List ℕ → Bool
is_counted [] = false
is_counted (count ∷ []) = count == 0
is_counted (count ∷ b ∷ bs) = nat_lt count 8

-- octets whose number of bits fits 64 bits, as themselves; more can't be held
abbrev pub held : List ℕ → Result (List ℕ) DerError
held octets = if nat_lt (bit_count octets) (2 ^ 64) then Ok octets else Err OutOfMemory

-- a BIT STRING's octets: the count is looked at first
abbrev pub bits_of : List ℕ → Result (List ℕ) DerError
bits_of octets = tested_of is_counted octets >>= held

-- the contents of BIT STRING; unused bits are taken as they stand, and needn't be zero as X.690 section 11.2 asks
abbrev pub bits_contents : Contents (List ℕ)
bits_contents = record { in_form = IsBitString; Octets = λ octets x. octets ≡ x; octets = λ x. x; decode = bits_of }
