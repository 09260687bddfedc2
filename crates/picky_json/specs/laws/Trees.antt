-- What holds of all trees (RFC 8259).
use Rattle.std.specs.Prelude.{◌≡◌, ℕ, List}
use Rattle.serde_json.specs.Data.{Data}
use Rattle.picky_json.specs.Tree.{Tree}

-- bytes have one tree at most
pub tree_is_determined : (bytes : List ℕ) (t u : Data) → Tree bytes t → Tree bytes u → u ≡ t
tree_is_determined bytes t u is also = cc (is.reads, also.reads)
