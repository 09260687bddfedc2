-- Members by their names: those that fields have, and all others (RFC 7515 section 4).
use Rattle.std.specs.Prelude.{ℕ, List, [], ◌∷◌, Bool, false, ◌||◌, if◌then◌else◌, map, option_map, unwrap_or, String, string_bytes}
use Rattle.std.specs.Str.{bytes_eq}
use Rattle.std.specs.Borrow.{Bor}
use Rattle.std.specs.declared.alloc.Global.{Global}
use Rattle.serde_json.specs.Data.{Data, Members, no_members, member}
use Rattle.serde_json.specs.Find.{as_object}
use Rattle.serde_json.specs.View.{view}
use Rattle.serde_json.specs.declared.value.Value.{Value}

-- a name and what stands under it
abbrev pub Pair : Type 0
Pair = List ℕ × Data

abbrev pub is_among : List (List ℕ) → List ℕ → Bool
is_among [] name = false
is_among (n ∷ ns) name = bytes_eq name n || is_among ns name

abbrev pub members_without : List (List ℕ) → Members → List Pair
members_without names no_members = []
members_without names (member k d ms) = if is_among names k then members_without names ms else (k, d) ∷ members_without names ms

-- the members of a tree that have none of the names, in the tree's order; none of a tree that is no object
abbrev pub others : List (List ℕ) → Data → List Pair
others names t = unwrap_or (option_map (members_without names) (as_object t)) []

-- one of the pairs has one of the names
abbrev pub holds_any : List (List ℕ) → List Pair → Bool
holds_any names [] = false
holds_any names (p ∷ ps) = is_among names p.0 || holds_any names ps

-- entries of a map, without where they lie in memory
abbrev pub pairs_view : List (String Global × Value) → List Pair
pairs_view entries = map (λ e. (string_bytes e.0, view e.1)) entries

abbrev pub names_view : List (Bor (List ℕ)) → List (List ℕ)
names_view names = map (λ n. n.now) names
