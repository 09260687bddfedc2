-- Why a key isn't read, isn't a public key or isn't made of one, each with its conditions in order (own; RFC 7518 section 6; RFC 8037 section 2).
use Rattle.std.specs.Prelude.{◌≡◌, ℕ, List, [], ◌∷◌, length, take, drop, nat_lt, if◌then◌else◌, codes, Option, Some, None}
use Rattle.picky_asn1_bits.specs.Integer.{some_bytes}
use Rattle.picky_base64.specs.Base64.{B64}
use Rattle.picky_base64.specs.declared.Form.TheVariants.{Url}
use Rattle.picky_contract.specs.Refusals.{Table, the, need, done, ◌>>=◌}
use Rattle.picky_key_der.specs.declared.algorithm.EcCurve.{EcCurve}
use Rattle.picky_key_der.specs.declared.algorithm.EdAlgorithm.{EdAlgorithm}
use Rattle.picky_key_der.specs.declared.algorithm.EdAlgorithm.TheVariants.{Ed25519, X25519}
use Rattle.picky_key_der.specs.declared.algorithm.NamedEcCurve.TheVariants.{Known, Unsupported}
use Rattle.picky_key_der.specs.declared.public.PublicKeyKind.{PublicKeyKind}
use Rattle.picky_key_der.specs.declared.public.PublicKeyKind.TheVariants.{Rsa, Ec, Ed}
use Rattle.picky_key_der.specs.Public.{field_size}
use Rattle.picky_jwk_names.specs.declared.edwards.JwkEdPublicKeyAlgorithm.{JwkEdPublicKeyAlgorithm}
use Rattle.picky_jwk_names.specs.declared.edwards.JwkEdPublicKeyAlgorithm.TheVariants as names
use Rattle.picky_jwk_key.specs.declared.error.JwkError.{JwkError}
use Rattle.picky_jwk_key.specs.declared.error.JwkError.TheVariants as errors
use Rattle.picky_jwk_key.specs.Keys.{RsaKey, EcKey, EdKey, Key, rsa, ec, ed, oct, curve_of, curve_named, ed_named}
use Rattle.picky_jwk_key.specs.Made.{rsa_of, ec_of, ed_of}
use Rattle.picky_jwk_key.specs.Public.{rsa_public, IsPointKey}

-- what an error says, want of memory aside
pub data Fault : Type 0 where
  json : Fault
  not_base64 : Fault
  unsupported : List ℕ → Fault
  bad_ec_key : Fault
  bad_coordinates : Fault
  bad_ed_key : Fault

abbrev pub fault : JwkError → Option Fault
fault errors.Json = Some json
fault errors.Base64Decoding = Some not_base64
fault (errors.UnsupportedAlgorithm algorithm) = Some (unsupported algorithm.now)
fault (errors.InvalidEcPublicKey cause) = Some bad_ec_key
fault errors.InvalidEcPointCoordinates = Some bad_coordinates
fault (errors.InvalidEdPublicKey cause) = Some bad_ed_key
fault errors.OutOfMemory = None

-- always this refusal
abbrev pub refused : {X : Type 0} → Fault → Table X Fault
refused f = the (λ _. ⊥) f

-- ---- bytes of a text

abbrev pub bytes_table : List ℕ → Table (List ℕ) Fault
bytes_table text = the (B64 Url text) not_base64

-- the bytes, after a 00 where their top bit is set
abbrev pub with_sign : List ℕ → List ℕ
with_sign [] = []
with_sign (b ∷ bs) = if nat_lt b 128 then b ∷ bs else 0 ∷ b ∷ bs

unfoldable pub signed_table : List ℕ → Table (List ℕ) Fault
signed_table text = do
  bytes ← bytes_table text
  done (with_sign bytes)

-- ---- the public key

unfoldable pub rsa_table : RsaKey → Table PublicKeyKind Fault
rsa_table k = do
  n ← bytes_table k.n
  e ← bytes_table k.e
  done (rsa_public n e)

unfoldable pub ec_table : EcKey → Table PublicKeyKind Fault
ec_table k = do
  x ← bytes_table k.x
  y ← bytes_table k.y
  the (IsPointKey (curve_of k.crv) x y) bad_coordinates

unfoldable pub edwards_table : EdAlgorithm → List ℕ → Table PublicKeyKind Fault
edwards_table algorithm text = do
  bytes ← bytes_table text
  size ← need (length bytes ≡ 32) bad_ed_key
  done (Ed algorithm bytes)

abbrev pub named_table : JwkEdPublicKeyAlgorithm → List ℕ → Table PublicKeyKind Fault
named_table names.Ed25519 x = edwards_table Ed25519 x
named_table names.Ed448 x = refused (unsupported (codes "ed448 algorithm"))
named_table names.X25519 x = edwards_table X25519 x
named_table names.X448 x = refused (unsupported (codes "x448 algorithm"))

abbrev pub ed_table : EdKey → Table PublicKeyKind Fault
ed_table k = named_table k.crv k.x

abbrev pub public_table : Key → Table PublicKeyKind Fault
public_table (rsa k) = rsa_table k
public_table (ec k) = ec_table k
public_table (ed k) = ed_table k
public_table oct = refused (unsupported (codes "octet sequence"))

-- ---- and back

-- the key of a point: it is 04 and two coordinates
abbrev pub IsKeyOfPoint : EcCurve → List ℕ → Key → Type 0
IsKeyOfPoint curve point k = (rest : List ℕ) × (point ≡ 4 ∷ rest) × (k ≡ ec_of (curve_named curve) (take (field_size curve) rest) (drop (field_size curve) rest))

unfoldable pub point_table : EcCurve → List ℕ → Table Key Fault
point_table curve point = the (IsKeyOfPoint curve point) bad_ec_key

-- what holds a public key
abbrev pub jwk_table : PublicKeyKind → Table Key Fault
jwk_table (Rsa n e) = done (rsa_of (some_bytes n.0) (some_bytes e.0))
jwk_table (Ec (Known curve) point) = point_table curve point
jwk_table (Ec (Unsupported oid) point) = refused (unsupported (codes "Unsupported EC curve"))
jwk_table (Ed algorithm bytes) = done (ed_of (ed_named algorithm) bytes)
