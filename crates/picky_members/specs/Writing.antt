-- Objects that are written member by member (own).
use Rattle.std.specs.Prelude.{ℕ, List, [], ◌∷◌, map, Option, Some, None}
use Rattle.serde_json.specs.Data.{Data, array, Members, no_members, member, put}
use Rattle.serde_json.specs.View.{items_of}
use Rattle.picky_members.specs.Names.{Pair}

-- a list of values as a tree
abbrev pub list_tree : {A : Type 0} → (A → Data) → List A → Data
list_tree tree xs = array (items_of (map tree xs))

-- d under the name, where there is a d
abbrev pub put_some : List ℕ → Option Data → Members → Members
put_some name None ms = ms
put_some name (Some d) ms = put name d ms

-- each row, a name and perhaps a tree
abbrev pub put_table : List (List ℕ × Option Data) → Members → Members
put_table [] ms = ms
put_table (row ∷ rows) ms = put_table rows (put_some row.0 row.1 ms)

-- all these, one after another
abbrev pub put_all : List Pair → Members → Members
put_all [] ms = ms
put_all (p ∷ ps) ms = put_all ps (put p.0 p.1 ms)

abbrev pub pairs_of : Members → List Pair
pairs_of no_members = []
pairs_of (member k d ms) = (k, d) ∷ pairs_of ms

-- the same members in the order of their names' bytes
abbrev pub in_name_order : List Pair → List Pair
in_name_order ps = pairs_of (put_all ps no_members)
