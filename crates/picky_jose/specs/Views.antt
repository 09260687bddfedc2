-- Tokens, seen without where their texts and bytes lie in memory.
use Rattle.std.specs.Prelude.{ℕ, List}
use Rattle.std.specs.Cow.{cow_str_bytes}
use Rattle.serde_json.specs.Data.{Data}
use Rattle.serde_json.specs.View.{view}
use Rattle.serde_json.specs.declared.value.Value.{Value}
use Rattle.picky_jws_header.specs.declared.header.JwsHeader.{JwsHeader}
use Rattle.picky_jws_header.specs.Header.{Header}
use Rattle.picky_jws_header.specs.Views.{header_view}
use Rattle.picky_jose.specs.declared.jws.RawJws.{RawJws}
use Rattle.picky_jose.specs.declared.jws.Jws.{Jws}
use Rattle.picky_jose.specs.declared.jwt.Jwt.{Jwt}
use Rattle.picky_jose.specs.declared.jwt.UncheckedState.{UncheckedState}
use Rattle.picky_jose.specs.declared.jwt.CheckedState.{CheckedState}

-- the text of a token that was read
abbrev pub text_of : RawJws → List ℕ
text_of x = cow_str_bytes x.compact_repr

-- what a token holds, without its signature
pub record Content : Type 0 where
  pub header : Header
  pub payload : List ℕ

abbrev pub raw_content : RawJws → Content
raw_content x = record { header = header_view x.header; payload = x.payload.items }

abbrev pub jws_content : Jws → Content
jws_content x = record { header = header_view x.header; payload = x.payload.items }

-- the payload of a token whose claims aren't checked yet
abbrev pub payload_of : {H : Type 0} → Jwt H UncheckedState → List ℕ
payload_of x = x.state.payload.items

-- a signed token whose claims aren't checked yet
abbrev pub unchecked_content : Jwt JwsHeader UncheckedState → Content
unchecked_content x = record { header = header_view x.header; payload = payload_of x }

-- the claims of a token
abbrev pub claims_of : Jwt JwsHeader (CheckedState Value) → Data
claims_of x = view x.state.claims
