-- The identifiers that the examples know: their arcs, of which the constants of the crate are the contents octets.
use Rattle.std.proofs.Common.{ℕ, List, [], ◌∷◌, Result, refl, rules}
use Rattle.picky_asn1_oid.specs.Arcs.{continued, base128}
use Rattle.picky_der.specs.declared.fault.DerError.{DerError}
use Rattle.picky_der.specs.Form.{IsValue, Writes}
use Rattle.picky_fields.specs.Fields.{identifier}
use Rattle.picky_fields.specs.laws.Identifiers.{Known, known_writes}
use Rattle.der_examples.specs.declared.TheConstants.{NAME, COUNT, BAGS}

-- 2.5.4.3
abbrev pub name : List ℕ
name = 2 ∷ 5 ∷ 4 ∷ 3 ∷ []

-- 1.2.840.113549.1.9.2
abbrev pub count : List ℕ
count = 1 ∷ 2 ∷ 840 ∷ 113549 ∷ 1 ∷ 9 ∷ 2 ∷ []

-- 1.2.840.113549.1.12.10.1.6
abbrev pub bags : List ℕ
bags = 1 ∷ 2 ∷ 840 ∷ 113549 ∷ 1 ∷ 12 ∷ 10 ∷ 1 ∷ 6 ∷ []

pub name_known : Known name NAME
unfolding base128 continued
name_known = record { are_arcs = search rules; contents = refl }

pub count_known : Known count COUNT
unfolding base128 continued
count_known = record { are_arcs = search rules; contents = refl }

pub bags_known : Known bags BAGS
unfolding base128 continued
bags_known = record { are_arcs = search rules; contents = refl }

-- what writes the value writes the identifier
pub bags_writes : (r : Result (Unit {0}) DerError) (old new : List ℕ) → Writes (IsValue (record { 0 = 6 }) BAGS) ⊥ r old new → Writes (λ s. identifier.Encodes s bags) ⊥ r old new
bags_writes r old new w = known_writes bags BAGS bags_known r old new w
