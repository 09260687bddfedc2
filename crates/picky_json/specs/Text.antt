-- Texts as JSON: the compact text of a string (RFC 8259, section 7), as `serde_json` writes it.
use Rattle.std.specs.Prelude.{ℕ, List}
use Rattle.serde_json.specs.Data.{string}
use Rattle.serde_json.specs.Written.{compact_text}

-- the text in quotes, escaped
unfoldable pub json_text : List ℕ → List ℕ
json_text text = compact_text (string text)
