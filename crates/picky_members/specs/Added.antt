-- Maps in the order in which entries were put in (own).
use Rattle.std.specs.Prelude.{◌≡◌, ℕ, List, String, string_bytes}
use Rattle.std.specs.String.{string_eq}
use Rattle.std.specs.declared.alloc.Global.{Global}
use Rattle.indexmap.specs.IndexMap.{insert_entry}
use Rattle.serde_json.specs.Data.{Data}
use Rattle.serde_json.specs.View.{view}
use Rattle.serde_json.specs.declared.value.Value.{Value}

-- now are the entries before, after what is seen as this name and this tree was put in
pub record Added (before now : List (String Global × Value)) (text : List ℕ) (d : Data) : Type 0 where
  pub name : String Global
  pub tree : Value
  pub spelled : string_bytes name ≡ text
  pub seen : view tree ≡ d
  pub added : now ≡ insert_entry string_eq before name tree
