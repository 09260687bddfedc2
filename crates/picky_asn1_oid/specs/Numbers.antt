-- Numbers in groups of seven bits one after another, and the arcs that they stand for (X.690 section 8.19).
use Rattle.std.specs.Prelude.{◌≡◌, ℕ, ◌-◌, ◌*◌, ◌/◌, min, List, [], ◌∷◌, All}
use Rattle.std.specs.List.{flat_map}
use Rattle.picky_asn1_oid.specs.Arcs.{FitsArc, base128}

-- these numbers fit 128 bits, and the bytes are all of them
abbrev pub AreNumbersOf : List ℕ → List ℕ → Type 0
AreNumbersOf bytes numbers = All FitsArc numbers × (flat_map base128 numbers ≡ bytes)

-- the arcs: the first number is 40 times the first arc, at most 2, and the second
abbrev pub arcs_from : List ℕ → List ℕ
arcs_from [] = []
arcs_from (n ∷ others) = min (n / 40) 2 ∷ (n - 40 * min (n / 40) 2) ∷ others
