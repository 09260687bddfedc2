-- Members of a JSON object as fields of a value (RFC 7515 section 4, RFC 7517 section 4).
--
-- `R` says of a tree which value it tells: `R d x` says that the tree d tells x. A member is what stands under a name, or none.
use Rattle.std.specs.Prelude.{◌≡◌, ◌⊎◌, ℕ, List, Option, Some, None}
use Rattle.std.specs.List.{AllZip}
use Rattle.serde_json.specs.Data.{Data, null, string, array}
use Rattle.serde_json.specs.View.{items_of}
use Rattle.picky_json.specs.Tree.{Tree}

-- the member is there, and tells x
unfoldable pub IsMember : {A : Type 0} → (Data → A → Type 0) → Option Data → A → Type 0
IsMember R m x = (d : Data) × (m ≡ Some d) × R d x

-- the member tells x, or there is none; a null is as good as none
abbrev pub IsOptional : {A : Type 0} → (Data → A → Type 0) → Option Data → Option A → Type 0
IsOptional R m None = (m ≡ None) ⊎ (m ≡ Some null)
IsOptional R m (Some x) = IsMember R m x

-- one member with two spellings: at least one spelling has no member, not even null, and the other is optional
abbrev pub IsSpelledEither : {A : Type 0} → (Data → A → Type 0) → Option Data → Option Data → Option A → Type 0
IsSpelledEither R m n x = ((n ≡ None) × IsOptional R m x) ⊎ ((m ≡ None) × IsOptional R n x)

-- the tree is this text
abbrev pub IsText : Data → List ℕ → Type 0
IsText d s = d ≡ string s

-- the tree is a list whose items tell these values, in order
pub record IsList {A : Type 0} (R : Data → A → Type 0) (d : Data) (xs : List A) : Type 0 where
  pub items : List Data
  pub form : d ≡ array (items_of items)
  pub each : AllZip R items xs

-- the text has a tree, which tells x
pub record TextOf {A : Type 0} (R : Data → A → Type 0) (text : List ℕ) (x : A) : Type 0 where
  pub tree : Data
  pub read : Tree text tree
  pub tells : R tree x
