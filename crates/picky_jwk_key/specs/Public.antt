-- The public key of a JSON Web Key (RFC 7518 sections 6.2.1 and 6.3.1; RFC 8037 section 2): which one it tells.
use Rattle.std.specs.Prelude.{◌≡◌, ℕ, List, length}
use Rattle.picky_asn1_bits.specs.Integer.{unsigned_spelling, some_bytes}
use Rattle.picky_base64.specs.Base64.{B64}
use Rattle.picky_base64.specs.declared.Form.TheVariants.{Url}
use Rattle.picky_key_der.specs.declared.algorithm.EcCurve.{EcCurve}
use Rattle.picky_key_der.specs.declared.algorithm.EdAlgorithm.{EdAlgorithm}
use Rattle.picky_key_der.specs.declared.algorithm.EdAlgorithm.TheVariants.{Ed25519, X25519}
use Rattle.picky_key_der.specs.declared.public.PublicKeyKind.{PublicKeyKind}
use Rattle.picky_key_der.specs.declared.public.PublicKeyKind.TheVariants.{Rsa, Ed}
use Rattle.picky_key_der.specs.Writing.{FitsField, of_coordinates}
use Rattle.picky_jwk_names.specs.declared.edwards.JwkEdPublicKeyAlgorithm.{JwkEdPublicKeyAlgorithm}
use Rattle.picky_jwk_names.specs.declared.edwards.JwkEdPublicKeyAlgorithm.TheVariants as names
use Rattle.picky_jwk_key.specs.Keys.{RsaKey, EcKey, Key, rsa, ec, ed, oct, curve_of}

-- the big-endian number of the bytes in its shortest spelling; no byte is zero
abbrev pub number_of : List ℕ → List ℕ
number_of bytes = unsigned_spelling (some_bytes bytes)

-- the RSA key of these numbers
abbrev pub rsa_public : List ℕ → List ℕ → PublicKeyKind
rsa_public n e = Rsa (record { 0 = number_of n }) (record { 0 = number_of e })

-- both texts spell bytes, and the key has their numbers
pub record IsRsaKey (k : RsaKey) (p : PublicKeyKind) : Type 0 where
  pub n : List ℕ
  pub e : List ℕ
  pub spells_n : B64 Url k.n n
  pub spells_e : B64 Url k.e e
  pub is : p ≡ rsa_public n e

-- both coordinates fit the field, and the key has their uncompressed point
abbrev pub IsPointKey : EcCurve → List ℕ → List ℕ → PublicKeyKind → Type 0
IsPointKey curve x y p = (FitsField curve x × FitsField curve y) × (p ≡ of_coordinates curve x y)

-- both texts spell bytes, and the key has the point of these coordinates
pub record IsEcKey (k : EcKey) (p : PublicKeyKind) : Type 0 where
  pub x : List ℕ
  pub y : List ℕ
  pub spells_x : B64 Url k.x x
  pub spells_y : B64 Url k.y y
  pub is : IsPointKey (curve_of k.crv) x y p

-- the text spells 32 bytes, which are the key
pub record IsEdwardsKey (algorithm : EdAlgorithm) (text : List ℕ) (p : PublicKeyKind) : Type 0 where
  pub bytes : List ℕ
  pub spells : B64 Url text bytes
  pub size : length bytes ≡ 32
  pub is : p ≡ Ed algorithm bytes

abbrev pub IsNamedKey : JwkEdPublicKeyAlgorithm → List ℕ → PublicKeyKind → Type 0
IsNamedKey names.Ed25519 text p = IsEdwardsKey Ed25519 text p
IsNamedKey names.Ed448 text p = ⊥
IsNamedKey names.X25519 text p = IsEdwardsKey X25519 text p
IsNamedKey names.X448 text p = ⊥

-- p is the public key that k tells; octet sequences, Ed448 and X448 tell none here
abbrev pub KeyOfJwk : Key → PublicKeyKind → Type 0
KeyOfJwk (rsa k) p = IsRsaKey k p
KeyOfJwk (ec k) p = IsEcKey k p
KeyOfJwk (ed k) p = IsNamedKey k.crv k.x p
KeyOfJwk oct p = ⊥
