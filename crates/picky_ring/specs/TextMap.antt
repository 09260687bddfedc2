-- Finite maps from texts (own).
use Rattle.std.specs.Prelude.{String, string_bytes, map}
use Rattle.std.specs.declared.alloc.Global.{Global}
use Rattle.std.specs.BTreeMap.{BTreeMap}
use Rattle.std.specs.FinMap.{FinMap, from_entries}
use Rattle.std.specs.Ordering.{nat_cmp}
use Rattle.std.specs.Cmp.Lexicographic.{slice_cmp}

-- a finite map from texts, as their UTF-8 bytes, to values of X
abbrev pub TextMap : Type 0 → Type 0
TextMap X = FinMap (slice_cmp nat_cmp) X

-- what a map of the standard library with texts as its keys is seen as
abbrev pub by_text : {X : Type 0} → BTreeMap (String Global) X → TextMap X
by_text m = from_entries (map (λ e. (string_bytes e.0, e.1)) m.entries)
