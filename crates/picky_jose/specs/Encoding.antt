-- How signed tokens are made (RFC 7515, sections 5.1 and 7.1), and why none is, in order.
use Rattle.std.specs.Prelude.{◌≡◌, ◌≤◌, ℕ, List, ◌∷◌, ◌++◌}
use Rattle.serde_json.specs.Data.{Data, depth}
use Rattle.serde_json.specs.Written.{compact_text}
use Rattle.picky_contract.specs.Refusals.{Table, the, need, named, done, ◌>>=◌}
use Rattle.picky_base64.specs.Base64.{encoding}
use Rattle.picky_base64.specs.declared.Form.TheVariants.{Url}
use Rattle.picky_json.specs.Tree.{Tree, FloatFree}
use Rattle.picky_jws_header.specs.Header.{Header, in_order}
use Rattle.picky_jws_header.specs.Trees.{IsWrittenAs}
use Rattle.picky_jose.specs.Token.{dot}
use Rattle.picky_jose.specs.Views.{Content}
use Rattle.picky_jose.specs.Refusals.{Reading, TokenReading, signed_bytes}
use Rattle.picky_jose.specs.Verified.{content_of}
use Rattle.picky_jose.specs.Signing.{Signing, IsGiven, given_rows}
use Rattle.picky_jose.specs.Faults.{JwsFault, json, float, JwtFault, jws, no_json, has_float}

-- ---- a header and a payload

-- the JWS signing input (RFC 7515, section 5.1): the base64url of the header's text, a dot, and that of the payload
abbrev pub signing_input : List ℕ → List ℕ → List ℕ
signing_input header payload = header ++ dot ∷ encoding Url payload

-- the compact serialization (section 7.1): the signing input, a dot, and the base64url of the signature
abbrev pub serialized : List ℕ → List ℕ → List ℕ
serialized signed s = signed ++ dot ∷ encoding Url s

-- The text is the token that signing makes of a content: its header is written as a float-free tree, in a compact text, and
-- its signature is given of the text's bytes before the last dot.
pub record IsToken (sign : Signing) (x : Content) (text : List ℕ) : Type 0 where
  pub tree : Data
  pub written : IsWrittenAs x.header tree
  pub free : FloatFree tree
  pub signature : List ℕ
  pub given : IsGiven sign x.header.alg (signing_input (encoding Url (compact_text tree)) x.payload) signature
  pub joined : text ≡ serialized (signing_input (encoding Url (compact_text tree)) x.payload) signature

-- the text of a header: it is written as a tree, which is float-free
unfoldable pub header_text_table : Header → Table (List ℕ) JwsFault
header_text_table h = do
  tree ← the (IsWrittenAs h) json
  free ← need (FloatFree tree) float
  done (encoding Url (compact_text tree))

-- the conditions of a token that is made, in their order: those of its header's text, and those of its signature
unfoldable pub encoding_table : Signing → Content → Table (List ℕ) JwsFault
encoding_table sign x = do
  header ← header_text_table x.header
  s ← given_rows sign x.header.alg (signing_input header x.payload)
  done (serialized (signing_input header x.payload) s)

-- ---- what the text reads back as

-- a content as it reads back: with its additional members in the order of their names' bytes
abbrev pub as_written : Content → Content
as_written x = record { header = in_order x.header; payload = x.payload }

-- The token has this content: it has a reading with this header and payload, and its signature is given under the header's
-- name, of the bytes before the token's last dot as they stand.
pub record SignedContent (sign : Signing) (token : List ℕ) (x : Content) : Type 0 where
  pub reading : Reading
  pub reads : TokenReading reading token
  pub given : IsGiven sign reading.header.alg (signed_bytes reads) reading.signature
  pub is : x ≡ content_of reading

-- ---- a header and claims

abbrev pub content : Header → List ℕ → Content
content h payload = record { header = h; payload = payload }

-- the text is the token that signing makes of a header and claims, whose tree is float-free and nests at most 127 deep
pub record IsClaimsToken (sign : Signing) (h : Header) (claims : Data) (text : List ℕ) : Type 0 where
  pub free : FloatFree claims
  pub shallow : depth claims ≤ 127
  pub token : IsToken sign (content h (compact_text claims)) text

-- the text of claims
unfoldable pub claims_text_table : Data → Table (List ℕ) JwtFault
claims_text_table claims = do
  free ← need (FloatFree claims) has_float
  shallow ← need (depth claims ≤ 127) no_json
  done (compact_text claims)

-- the conditions of a token of claims that is made, in their order: those of the claims' text, and those of the token
unfoldable pub claims_encoding_table : Signing → Header → Data → Table (List ℕ) JwtFault
claims_encoding_table sign h claims = do
  payload ← claims_text_table claims
  named jws (encoding_table sign (content h payload))

-- P holds of this header and a payload that has the tree of these claims, which is float-free
pub record HoldsOfClaims (P : Content → Type 0) (h : Header) (claims : Data) : Type 0 where
  pub payload : List ℕ
  pub read : Tree payload claims
  pub free : FloatFree claims
  pub holds : P (content h payload)
