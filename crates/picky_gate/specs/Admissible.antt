-- When a text is admissible, over a ring, a provider's signature relation and a policy (own; the token
-- by RFC 7515, section 7.1, its dates by RFC 7519, sections 4.1.4 and 4.1.5).
use Rattle.std.specs.Prelude.{◌≡◌, ◌<◌, ℕ, List, Option, Some}
use Rattle.std.specs.FinMap.{get}
use Rattle.serde_json.specs.Data.{Data}
use Rattle.picky_key_der.specs.declared.public.PublicKeyKind.{PublicKeyKind}
use Rattle.picky_key.specs.declared.algorithm.SignatureAlgorithm.{SignatureAlgorithm}
use Rattle.picky_key.specs.Signatures.{Relation}
use Rattle.picky_json.specs.Tree.{Tree, FloatFree}
use Rattle.picky_jws_header.specs.Header.{Header}
use Rattle.picky_jose.specs.Refusals.{Reading, TokenReading, signed_bytes}
use Rattle.picky_jose.specs.Signatures.{IsVouched}
use Rattle.picky_jose.specs.Claims.{AreInTime}
use Rattle.picky_base64.specs.Base64.{B64}
use Rattle.picky_http.specs.Lines.{Request}
use Rattle.picky_http.specs.Reading.{HeaderReading}
use Rattle.picky_http.specs.Reading as header
use Rattle.picky_http.specs.Verifying.{AlgorithmFits, IsInForce, HasBegun, IsMessage, form_of}
use Rattle.picky_ring.specs.declared.ring.RingEntry.{RingEntry}
use Rattle.picky_ring.specs.Entry.{verifying}
use Rattle.picky_ring.specs.TextMap.{TextMap}
use Rattle.picky_gate.specs.declared.policy.Policy.{Policy}
use Rattle.picky_gate.specs.Scheme.{Scheme, bearer, header_text, IsScheme, dots_in}

-- what is admitted, a constructor a kind: a token under its key's name, with its header and its claims; a header text
-- under its key's name, with the ring's algorithm and its reading
pub data Admission : Type 0 where
  token : List ℕ → Header → Data → Admission
  request : List ℕ → SignatureAlgorithm → header.Reading → Admission

-- ---- what all kinds share

-- a name of a ring, and the key and the algorithm with which signatures are checked under it
pub record NamedKey : Type 0 where
  pub name : List ℕ
  pub key : PublicKeyKind
  pub algorithm : SignatureAlgorithm

-- the name is there, and is that of an entry of the ring that checks signatures with this key and this algorithm
pub record IsKeyUnder (ring : TextMap RingEntry) (name : Option (List ℕ)) (k : NamedKey) : Type 0 where
  pub named : name ≡ Some k.name
  pub entry : RingEntry
  pub found : get ring k.name ≡ Some entry
  pub checks : verifying entry ≡ Some (k.key, k.algorithm)

-- ---- tokens

-- The token is admissible as this: it is a signed one, which has fewer than four dots; it has a reading, whose `kid` names a key of
-- the ring; the relation holds of that key, the algorithm of its `alg`, the token's bytes before its last dot as they stand, and its
-- signature; its payload is claims, a float-free tree, whose dates meet the validator.
pub record TokenAdmissible (signs : Relation) (ring : TextMap RingEntry) (policy : Policy) (text : List ℕ) (a : Admission) : Type 0 where
  pub signed : dots_in text < 4
  pub reading : Reading
  pub reads : TokenReading reading text
  pub key : NamedKey
  pub named : IsKeyUnder ring reading.header.kid key
  pub vouched : IsVouched signs key.key reading.header.alg (signed_bytes reads) reading.signature
  pub claims : Data
  pub are_claims : Tree reading.payload claims
  pub free : FloatFree claims
  pub in_time : AreInTime policy.validator claims
  pub is : a ≡ token key.name reading.header claims

-- ---- header texts

-- The header text is admissible as this, over a request: it has a reading, whose key id names a key of the ring; an
-- algorithm of the text that is known is that of the ring, and of the key's family; the dates meet the policy's moment
-- and leeway; each covered part has its answer, and the signing string joins their lines; the signature is strict base64
-- of its form, and the relation holds of the key, the ring's algorithm, the signing string and the signature.
pub record HeaderAdmissible (signs : Relation) (ring : TextMap RingEntry) (policy : Policy) (asked : Request) (text : List ℕ) (a : Admission) : Type 0 where
  pub reading : header.Reading
  pub reads : HeaderReading text reading
  pub key : NamedKey
  pub named : IsKeyUnder ring (Some reading.key_id) key
  pub fits : AlgorithmFits key.key key.algorithm reading.algorithm
  pub lasts : IsInForce policy.now policy.leeway reading.expires
  pub started : HasBegun policy.now policy.leeway reading.created
  pub message : List ℕ
  pub signs_it : IsMessage asked reading message
  pub signature : List ℕ
  pub spelled : B64 (form_of reading.legacy) reading.signature signature
  pub vouched : signs key.key key.algorithm message signature
  pub is : a ≡ request key.name key.algorithm reading

-- ---- all texts

-- a text of this kind is admissible as this
abbrev pub SchemeAdmissible : Relation → TextMap RingEntry → Policy → Request → Scheme → Admission → Type 0
SchemeAdmissible signs ring policy asked (bearer text) a = TokenAdmissible signs ring policy text a
SchemeAdmissible signs ring policy asked (header_text text) a = HeaderAdmissible signs ring policy asked text a

-- the text is admissible as this: it is of a kind, and is admissible as a text of that kind
pub record Admissible (signs : Relation) (ring : TextMap RingEntry) (policy : Policy) (asked : Request) (text : List ℕ) (a : Admission) : Type 0 where
  pub scheme : Scheme
  pub of_scheme : IsScheme text scheme
  pub admissible : SchemeAdmissible signs ring policy asked scheme a
