-- Lines and fields: a text cut at each mark (own).
use Rattle.std.specs.Prelude.{ℕ, ◌==◌, List, [], ◌∷◌, ◌++◌, if◌then◌else◌}

-- the texts that a mark ends, where front was read before
unfoldable pub ended_after : ℕ → List ℕ → List ℕ → List (List ℕ)
ended_after c front [] = []
ended_after c front (b ∷ text) = if b == c then front ∷ ended_after c [] text else ended_after c (front ++ b ∷ []) text

-- the text that no mark ends
unfoldable pub left_after : ℕ → List ℕ → List ℕ → List ℕ
left_after c front [] = front
left_after c front (b ∷ text) = if b == c then left_after c [] text else left_after c (front ++ b ∷ []) text

-- a line feed, and a space
abbrev pub line_feed : ℕ
line_feed = 10

abbrev pub space : ℕ
space = 32

-- the lines of a document, each ended by LF, and what stands after the last LF
abbrev pub lines_in : List ℕ → List (List ℕ)
lines_in doc = ended_after line_feed [] doc

abbrev pub left_in : List ℕ → List ℕ
left_in doc = left_after line_feed [] doc

-- the fields of a line, parted by one space
abbrev pub fields_in : List ℕ → List (List ℕ)
fields_in line = ended_after space [] line ++ left_after space [] line ∷ []
