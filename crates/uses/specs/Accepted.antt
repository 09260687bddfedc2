-- Tokens whose claims a user takes (RFC 7515, section 5.2; RFC 7519, section 7.2).
use Rattle.std.specs.Prelude.{◌≡◌, ℕ, ℤ, List, codes, Some, option_and_then}
use Rattle.serde_json.specs.Data.{Data}
use Rattle.picky_contract.specs.Refusals.{Table, named, ◌>>=◌}
use Rattle.picky_json.specs.Tree.{Tree, FloatFree, member, integer}
use Rattle.picky_key_der.specs.declared.public.PublicKeyKind.{PublicKeyKind}
use Rattle.picky_key.specs.Signatures.{Relation}
use Rattle.picky_jose.specs.declared.date.JwtDate.{JwtDate}
use Rattle.picky_jose.specs.Claims.{claims_table}
use Rattle.picky_jose.specs.Dates.{IsAtOrAfterStart, IsBeforeEnd}
use Rattle.picky_jose.specs.Faults.{JwsFault, JwtFault, jws}
use Rattle.picky_jose.specs.Refusals.{Reading, TokenReading, token_table, signed_bytes}
use Rattle.picky_jose.specs.Signatures.{IsVouched, signed_table}
use Rattle.picky_jose.specs.Validator.{lenient}

-- a moment in seconds, with a leeway of 30
abbrev pub date_at : ℤ → JwtDate
date_at now = record { numeric_date = now; leeway = 30 }

-- the claims hold this date
abbrev pub HasDate : List ℕ → Data → ℤ → Type 0
HasDate name claims z = option_and_then integer (member name claims) ≡ Some z

-- The claims are those of a token: the text has a reading, the relation holds of the key, of the algorithm of
-- the header's name, of the bytes before the text's last dot as they stand, and of its signature, the payload is
-- those claims, without floats, and the date is within those that they hold.
pub record Accepted (signs : Relation) (key : PublicKeyKind) (date : JwtDate) (text : List ℕ) (claims : Data) : Type 0 where
  pub reading : Reading
  pub reads : TokenReading reading text
  pub vouched : IsVouched signs key reading.header.alg (signed_bytes reads) reading.signature
  pub tree : Tree reading.payload claims
  pub free : FloatFree claims
  pub started : (nbf : ℤ) → HasDate (codes "nbf") claims nbf → IsAtOrAfterStart date nbf
  pub lasts : (exp : ℤ) → HasDate (codes "exp") claims exp → IsBeforeEnd date exp

-- a refusal of the signed token, as one of claims
abbrev pub of_token : JwsFault → JwtFault
of_token fault = jws fault

-- the conditions of a text, in their order
unfoldable pub accepted_table : Relation → PublicKeyKind → JwtDate → List ℕ → Table Data JwtFault
accepted_table signs key date text = do
  x ← named of_token (token_table text)
  signed ← named of_token (signed_table signs key x.header.alg text)
  claims_table (lenient date) x.payload
