-- The contents octets of an OBJECT IDENTIFIER (X.690 section 8.19).
use Rattle.std.specs.Prelude.{◌≡◌, ℕ, ◌+◌, ◌-◌, ◌*◌, ◌^◌, ◌||◌, ◌&&◌, Bool, false, if◌then◌else◌, nat_lt, nat_le, List, [], ◌∷◌, Result, Ok, Err}
use Rattle.std.specs.List.{list_all}
use Rattle.std.specs.Str.{bytes_eq}
use Rattle.picky_asn1_oid.specs.Arcs.{IsArcs, contents_of}
use Rattle.picky_asn1_oid.specs.Numbers.{arcs_from}
use Rattle.picky_der.specs.declared.fault.DerError.{DerError}
use Rattle.picky_der.specs.declared.fault.DerError.TheVariants.{BadValue}
use Rattle.picky_der.specs.Primitive.{Contents}

-- the numbers of which these are the groups of seven bits, where `high` stands for the groups in front; an octet below 128 ends one
abbrev pub numbers_in : ℕ → List ℕ → List ℕ
numbers_in high [] = []
numbers_in high (b ∷ bs) =
    if nat_lt b 128 then (high * 128 + b) ∷ numbers_in 0 bs else numbers_in (high * 128 + (b - 128)) bs

-- whether these are arcs, as `IsArcs` says
abbrev pub are_arcs : List ℕ → Bool
are_arcs [] = false
are_arcs (first ∷ []) = false
are_arcs (first ∷ second ∷ others) =
    nat_le first 2 && ((nat_le 2 first || nat_lt second 40) && (nat_lt (40 * first + second) (2 ^ 128) && list_all (λ n. nat_lt n (2 ^ 128)) others))

-- the arcs for which octets stand, if there are any
abbrev pub arcs_in : List ℕ → List ℕ
arcs_in octets = arcs_from (numbers_in 0 octets)

-- whether these are the contents octets of the arcs in them
abbrev pub is_identifier : List ℕ → Bool
is_identifier octets = are_arcs (arcs_in octets) && bytes_eq (contents_of (arcs_in octets)) octets

-- the arcs of which these are the contents octets
abbrev pub identifier_of : List ℕ → Result (List ℕ) DerError
identifier_of octets = if is_identifier octets then Ok (arcs_in octets) else Err BadValue

abbrev pub identifier_contents : Contents (List ℕ)
identifier_contents = record { in_form = IsArcs; Octets = λ octets arcs. octets ≡ contents_of arcs; octets = contents_of; decode = identifier_of }
