-- The contents octets of an INTEGER that is at least zero (X.690 sections 8.3.1 to 8.3.3), and which of them a type reads.
use Rattle.std.specs.Prelude.{◌≡◌, ℕ, zero, suc, ◌/◌, ◌%◌, ◌==◌, ◌<◌, ◌≤◌, ◌||◌, ◌&&◌, Bool, false, if◌then◌else◌, nat_lt, nat_le, List, [], ◌∷◌, ◌++◌, length, slice_index, Result, Ok, Err}
use Rattle.picky_asn1_bits.specs.Integer.{unsigned_of}
use Rattle.picky_der.specs.declared.fault.DerError.{DerError}
use Rattle.picky_der.specs.declared.fault.DerError.TheVariants.{BadValue}
use Rattle.picky_der.specs.Length.{IsBytes}
use Rattle.picky_der.specs.Primitive.{Contents}

-- The octets are the two's complement of the number, in the fewest.
pub record IsNatural (octets : List ℕ) (n : ℕ) : Type 0 where
  pub are_bytes : IsBytes octets
  -- there is one or more
  pub some : 1 ≤ length octets
  -- bit 8 of the first is zero, so the number isn't below zero
  pub sign : slice_index octets 0 < 128
  -- the first nine bits aren't all zero
  pub fewest : 1 < length octets → slice_index octets 0 ≡ 0 → 128 ≤ slice_index octets 1
  pub number : unsigned_of octets ≡ n

-- the first octet is zero and could be left out
abbrev pub redundant : ℕ → List ℕ → Bool
redundant first [] = false
redundant first (b ∷ bs) = first == 0 && nat_lt b 128

-- the number for which octets stand, in their fewest and below the limit
abbrev pub natural_of : ℕ → List ℕ → Result ℕ DerError
natural_of limit [] = Err BadValue
natural_of limit (b ∷ bs) =
    if nat_le 128 b || redundant b bs then Err BadValue
    else if nat_lt (unsigned_of (b ∷ bs)) limit then Ok (unsigned_of (b ∷ bs)) else Err BadValue

-- one octet of a number below 128, else the octets of its 256th part and one more; `most` bounds how often it is divided
abbrev pub octets_within : ℕ → ℕ → List ℕ
octets_within zero n = n ∷ []
octets_within (suc most) n = if nat_lt n 128 then n ∷ [] else octets_within most (n / 256) ++ n % 256 ∷ []

-- the octets of a number below 2^128, in the fewest
abbrev pub natural_octets : ℕ → List ℕ
natural_octets n = octets_within 16 n

-- an INTEGER of a type whose numbers are those below the limit, which is 2^128 or less
abbrev pub natural_contents : ℕ → Contents ℕ
natural_contents limit = record { in_form = λ n. n < limit; Octets = IsNatural; octets = natural_octets; decode = natural_of limit }
