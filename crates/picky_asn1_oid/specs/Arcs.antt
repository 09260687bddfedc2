-- Object identifiers: their arcs (X.660 section 7), their contents octets (X.690 section 8.19) and their dotted text.
use Rattle.std.specs.Prelude.{ℕ, zero, suc, ◌+◌, ◌*◌, ◌/◌, ◌%◌, ◌^◌, ◌<◌, ◌≤◌, List, [], ◌∷◌, ◌++◌, All, if◌then◌else◌, ◌==◌}
use Rattle.std.specs.List.{flat_map}
use Rattle.std.specs.Fmt.{decimal}

-- a number of 128 bits
abbrev pub FitsArc : ℕ → Type 0
FitsArc n = n < 2 ^ 128

-- at least two arcs: the first is 0 to 2, and the second is below 40 under 0 and 1;
-- 40 times the first and the second together fit 128 bits, and so does every further arc
abbrev pub IsArcs : List ℕ → Type 0
IsArcs [] = ⊥
IsArcs (first ∷ []) = ⊥
IsArcs (first ∷ second ∷ others) = (first ≤ 2) × (first < 2 → second < 40) × FitsArc (40 * first + second) × All FitsArc others

-- the numbers that are encoded: the first two arcs as one, and each further arc (X.690 section 8.19.4)
abbrev pub subidentifiers : List ℕ → List ℕ
subidentifiers [] = []
subidentifiers (first ∷ []) = first ∷ []
subidentifiers (first ∷ second ∷ others) = (40 * first + second) ∷ others

-- the groups of seven bits of a number, the high one first and none for 0, each with bit 8 set; at most `most` of them
unfoldable pub continued : ℕ → ℕ → List ℕ
continued zero n = []
continued (suc most) n = if n == 0 then [] else continued most (n / 128) ++ (128 + n % 128) ∷ []

-- a number below 2 ^ 128 in groups of seven bits, as few as there can be; bit 8 is set in all but the last (X.690 section 8.19.2)
unfoldable pub base128 : ℕ → List ℕ
base128 n = continued 19 (n / 128) ++ n % 128 ∷ []

-- the contents octets of an identifier
abbrev pub contents_of : List ℕ → List ℕ
contents_of arcs = flat_map base128 (subidentifiers arcs)

-- the arcs in decimal without leading zeros, joined by dots
abbrev pub text_of : List ℕ → List ℕ
text_of [] = []
text_of (arc ∷ []) = decimal arc
text_of (arc ∷ next ∷ others) = decimal arc ++ 46 ∷ text_of (next ∷ others)
