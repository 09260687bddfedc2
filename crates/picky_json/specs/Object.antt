-- Objects by exactly their members (RFC 8259, section 4).
--
-- The order of the list is free: an object has each name once, and of a repeated name the first of
-- the list stands (`laws::object_by_name`).
use Rattle.std.specs.Prelude.{ℕ, List, [], ◌∷◌}
use Rattle.serde_json.specs.Data.{Data, object, Members, no_members, put}

abbrev pub members_of : List (List ℕ × Data) → Members
members_of [] = no_members
members_of (m ∷ ms) = put m.0 m.1 (members_of ms)

-- the object with exactly these members, each a name and a tree
abbrev pub object_of : List (List ℕ × Data) → Data
object_of ms = object (members_of ms)
