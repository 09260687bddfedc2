-- Signed tokens whose signature holds (RFC 7515, section 5.2), and why a text is none, in order.
use Rattle.std.specs.Prelude.{◌≡◌, ℕ, List}
use Rattle.picky_contract.specs.Refusals.{Table, done, ◌>>=◌}
use Rattle.picky_key.specs.Signatures.{Relation}
use Rattle.picky_key_der.specs.declared.public.PublicKeyKind.{PublicKeyKind}
use Rattle.picky_jose.specs.Views.{Content}
use Rattle.picky_jose.specs.Faults.{JwsFault}
use Rattle.picky_jose.specs.Refusals.{Reading, TokenReading, token_table, signed_bytes}
use Rattle.picky_jose.specs.Signatures.{IsVouched, signed_table}

-- what was read, without its signature
abbrev pub content_of : Reading → Content
content_of x = record { header = x.header; payload = x.payload }

-- The token has this content: it has a reading with this header and payload, and the relation holds of the key, the algorithm of
-- the header's name, the bytes before the token's last dot as they stand, and its signature.
pub record VerifiedContent (signs : Relation) (key : PublicKeyKind) (token : List ℕ) (x : Content) : Type 0 where
  pub reading : Reading
  pub reads : TokenReading reading token
  pub vouched : IsVouched signs key reading.header.alg (signed_bytes reads) reading.signature
  pub is : x ≡ content_of reading

-- the conditions of a token, in their order: those of its reading, and those of its signature
unfoldable pub verified_table : Relation → PublicKeyKind → List ℕ → Table Content JwsFault
verified_table signs key token = do
  x ← token_table token
  signed ← signed_table signs key x.header.alg token
  done (content_of x)
