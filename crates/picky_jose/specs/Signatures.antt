-- When a signature is accepted (RFC 7518, sections 3.1 and 3.4; RFC 8037, section 3.1), and why not, in order.
use Rattle.std.specs.Prelude.{◌≡◌, ℕ, ◌*◌, List, length, ⊤}
use Rattle.picky_contract.specs.Refusals.{Table, the, need, named, done, ◌>>=◌}
use Rattle.picky_base64.specs.Base64.{B64}
use Rattle.picky_base64.specs.declared.Form.TheVariants.{Url}
use Rattle.picky_key_der.specs.declared.algorithm.EcCurve.TheVariants.{NistP256, NistP384, NistP521}
use Rattle.picky_key_der.specs.Ecdsa.{pair_value, ecdsa_pair, halves_of}
use Rattle.picky_key_der.specs.Public.{field_size}
use Rattle.picky_key.specs.Signatures.{Relation, SignatureFault, unsupported, ec_size, vouched_table}
use Rattle.picky_key_der.specs.declared.public.PublicKeyKind.{PublicKeyKind}
use Rattle.picky_key.specs.declared.algorithm.SignatureAlgorithm.TheVariants.{RsaPkcs1v15, Ecdsa, Ed25519}
use Rattle.picky_key.specs.declared.algorithm.HashAlgorithm.TheVariants.{SHA2_256, SHA2_384, SHA2_512}
use Rattle.picky_jwk_names.specs.declared.alg.JwsAlg.{JwsAlg}
use Rattle.picky_jwk_names.specs.declared.alg.JwsAlg.TheVariants as alg
use Rattle.picky_jose.specs.declared.signature.Asked.{Asked}
use Rattle.picky_jose.specs.declared.signature.Asked.TheVariants.{Nothing, Plain, Pair}
use Rattle.picky_jose.specs.Token.{Halves, HalvesOf}
use Rattle.picky_jose.specs.Faults.{JwsFault, signature, invalid_encoding, not_base64}

-- what a name asks of a provider: nothing, where it has no signature algorithm; the signature as it stands, under an
-- algorithm; or the pair of its two numbers, each of the size of a curve's field, under ECDSA
abbrev pub asked_by : JwsAlg → Asked
asked_by alg.RS256 = Plain (RsaPkcs1v15 SHA2_256)
asked_by alg.RS384 = Plain (RsaPkcs1v15 SHA2_384)
asked_by alg.RS512 = Plain (RsaPkcs1v15 SHA2_512)
asked_by alg.ES256 = Pair SHA2_256 NistP256
asked_by alg.ES384 = Pair SHA2_384 NistP384
asked_by alg.ES512 = Pair SHA2_512 NistP521
asked_by alg.EdDSA = Plain Ed25519
asked_by alg.ED25519 = Plain Ed25519
asked_by _ = Nothing

-- the DER of the pair whose numbers are the two halves of a signature, each in its shortest spelling (RFC 7518, section
-- 3.4; RFC 3279, section 2.2.3)
unfoldable pub pair_der : ℕ → List ℕ → List ℕ
pair_der size s = ecdsa_pair.encoding (pair_value (halves_of size s))

-- the relation holds of the key, the signed bytes and what is asked of the signature
abbrev pub AskedHolds : Relation → PublicKeyKind → Asked → List ℕ → List ℕ → Type 0
AskedHolds signs key Nothing signed s = ⊥
AskedHolds signs key (Plain algorithm) signed s = signs key algorithm signed s
AskedHolds signs key (Pair hash curve) signed s = (length s ≡ 2 * field_size curve) × signs key (Ecdsa hash) signed (pair_der (field_size curve) s)

-- a signature is accepted under a name: the relation holds of the key, the name's algorithm, the signed bytes, and what the
-- name asks of the signature
abbrev pub IsVouched : Relation → PublicKeyKind → JwsAlg → List ℕ → List ℕ → Type 0
IsVouched signs key name signed s = AskedHolds signs key (asked_by name) signed s

-- a signature of two numbers has twice the size of one, and stands for the DER of their pair
unfoldable pub pair_table : ℕ → List ℕ → Table (List ℕ) SignatureFault
pair_table size s = do
  fits ← need (length s ≡ 2 * size) (ec_size (2 * size) (length s))
  done (pair_der size s)

-- the relation holds of the key, the name's algorithm, the signed bytes, and what the name asks of the signature
unfoldable pub asked_table : Relation → PublicKeyKind → Asked → List ℕ → List ℕ → Table ⊤ SignatureFault
asked_table signs key Nothing signed s = need ⊥ unsupported
asked_table signs key (Plain algorithm) signed s = vouched_table signs key algorithm signed s
asked_table signs key (Pair hash curve) signed s = do
  pair ← pair_table (field_size curve) s
  vouched_table signs key (Ecdsa hash) signed pair

-- what a name asks, with its refusals as those of a token
abbrev pub vouched_rows : Relation → PublicKeyKind → JwsAlg → List ℕ → List ℕ → Table ⊤ JwsFault
vouched_rows signs key name signed s = named signature (asked_table signs key (asked_by name) signed s)

-- the text is signed: the bytes before its last dot, by what the text after it spells
unfoldable pub signed_table : Relation → PublicKeyKind → JwsAlg → List ℕ → Table ⊤ JwsFault
signed_table signs key name token = do
  halves ← the (HalvesOf token) (invalid_encoding token)
  s ← the (B64 Url halves.signature) not_base64
  vouched_rows signs key name halves.signed s

-- what stands after the last dot of a text spells this signature
pub record EndsWith (token s : List ℕ) : Type 0 where
  pub halves : Halves
  pub cut : HalvesOf token halves
  pub spelled : B64 Url halves.signature s
