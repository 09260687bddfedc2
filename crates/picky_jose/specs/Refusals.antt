-- The reading of a signed token (RFC 7515, section 7.1), and why a text has none, in order.
use Rattle.std.specs.Prelude.{ℕ, List}
use Rattle.serde_json.specs.Data.{Data}
use Rattle.picky_contract.specs.Refusals.{Table, the, need, done, ◌>>=◌}
use Rattle.picky_base64.specs.Base64.{B64}
use Rattle.picky_base64.specs.declared.Form.TheVariants.{Url}
use Rattle.picky_json.specs.Tree.{Tree, FloatFree}
use Rattle.picky_jws_header.specs.Header.{Header, JwsHeaderOf}
use Rattle.picky_jws_header.specs.Views.{header_view}
use Rattle.picky_jose.specs.declared.jws.RawJws.{RawJws}
use Rattle.picky_jose.specs.Token.{Parts, PartsOf, signed_part}
use Rattle.picky_jose.specs.Views.{raw_content}
use Rattle.picky_jose.specs.Faults.{JwsFault, json, invalid_encoding, not_base64, float}

-- what a token is read as
pub record Reading : Type 0 where
  pub header : Header
  pub payload : List ℕ
  pub signature : List ℕ

abbrev pub reading_of : RawJws → Reading
reading_of x = record { header = header_view x.header; payload = (raw_content x).payload; signature = x.signature.items }

-- the header that a text spells: strict base64url of a float-free tree that tells it
unfoldable pub header_table : List ℕ → Table Header JwsFault
header_table text = do
  bytes ← the (B64 Url text) not_base64
  tree ← the (Tree bytes) json
  free ← need (FloatFree tree) float
  the (JwsHeaderOf tree) json

unfoldable pub token_table : List ℕ → Table Reading JwsFault
token_table token = do
  parts ← the (PartsOf token) (invalid_encoding token)
  header ← header_table parts.header
  signature ← the (B64 Url parts.signature) not_base64
  payload ← the (B64 Url parts.payload) not_base64
  done (record { header = header; payload = payload; signature = signature })

-- x is the reading of the token
pub record TokenReading (x : Reading) (token : List ℕ) : Type 0 where
  pub parts : Parts
  pub joined : PartsOf token parts
  pub header_bytes : List ℕ
  pub tree : Data
  pub header_text : B64 Url parts.header header_bytes
  pub header_tree : Tree header_bytes tree
  pub free : FloatFree tree
  pub header : JwsHeaderOf tree x.header
  pub signature : B64 Url parts.signature x.signature
  pub payload : B64 Url parts.payload x.payload

-- the JWS signing input of a token that was read (RFC 7515, section 5.1): the bytes before its last dot, as they stand
abbrev pub signed_bytes : {x : Reading} → {token : List ℕ} → TokenReading x token → List ℕ
signed_bytes r = signed_part r.parts
