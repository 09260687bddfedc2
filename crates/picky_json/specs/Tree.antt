-- JSON trees (RFC 8259): what `serde_json` reads from bytes.
--
-- The reader decides depth, repeated members (the last stands) and which integers are held as floats:
-- arrays and objects nest at most 127 deep, and a number is held as a float exactly where it is
-- neither an i64 nor a u64 (`laws::depth_is_limited`, `laws::floats_are_no_integers`).
use Rattle.std.specs.Prelude.{◌≡◌, ℤ, List, ℕ, false, Option, Some, IsUtf8, option_and_then}
use Rattle.serde_json.specs.Data.{Data}
use Rattle.serde_json.specs.Read.{read}
use Rattle.serde_json.specs.Find.{get, as_number, as_i64}
use Rattle.serde_json.specs.Written.{has_float}

-- t is the tree of these bytes
pub record Tree (bytes : List ℕ) (t : Data) : Type 0 where
  pub utf8 : IsUtf8 bytes
  pub reads : read bytes ≡ Some t

-- no number in the tree is held as a float
abbrev pub FloatFree : Data → Type 0
FloatFree t = has_float t ≡ false

-- what stands under a name, where the tree is an object that has it
abbrev pub member : List ℕ → Data → Option Data
member name t = get name t

-- the integer that a tree is, where it is one in i64
abbrev pub integer : Data → Option ℤ
integer t = option_and_then as_i64 (as_number t)
