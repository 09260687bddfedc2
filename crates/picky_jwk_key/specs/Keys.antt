-- What a JSON Web Key holds of its key (RFC 7518 section 6; RFC 8037 section 2), without where its texts lie in memory.
use Rattle.std.specs.Prelude.{ℕ, List, string_bytes, Bool, true, false}
use Rattle.picky_jwk_names.specs.declared.curve.JwkEcPublicKeyCurve.{JwkEcPublicKeyCurve}
use Rattle.picky_jwk_names.specs.declared.curve.JwkEcPublicKeyCurve.TheVariants.{P256, P384, P521}
use Rattle.picky_jwk_names.specs.declared.edwards.JwkEdPublicKeyAlgorithm.{JwkEdPublicKeyAlgorithm}
use Rattle.picky_jwk_names.specs.declared.edwards.JwkEdPublicKeyAlgorithm.TheVariants as names
use Rattle.picky_key_der.specs.declared.algorithm.EcCurve.{EcCurve}
use Rattle.picky_key_der.specs.declared.algorithm.EcCurve.TheVariants.{NistP256, NistP384, NistP521}
use Rattle.picky_key_der.specs.declared.algorithm.EdAlgorithm.{EdAlgorithm}
use Rattle.picky_key_der.specs.declared.algorithm.EdAlgorithm.TheVariants.{Ed25519, X25519}
use Rattle.picky_jwk_key.specs.declared.key.JwkKeyType.{JwkKeyType}
use Rattle.picky_jwk_key.specs.declared.key.JwkKeyType.TheVariants as code
use Rattle.picky_jwk_key.specs.declared.key.JwkPublicRsaKey.{JwkPublicRsaKey}
use Rattle.picky_jwk_key.specs.declared.key.JwkPublicEcKey.{JwkPublicEcKey}
use Rattle.picky_jwk_key.specs.declared.key.JwkPublicEdKey.{JwkPublicEdKey}

-- the texts of modulus and exponent
pub record RsaKey : Type 0 where
  pub n : List ℕ
  pub e : List ℕ

-- a curve and the texts of two coordinates
pub record EcKey : Type 0 where
  pub crv : JwkEcPublicKeyCurve
  pub x : List ℕ
  pub y : List ℕ

-- an algorithm and the text of the key's bytes
pub record EdKey : Type 0 where
  pub crv : JwkEdPublicKeyAlgorithm
  pub x : List ℕ

pub data Key : Type 0 where
  rsa : RsaKey → Key
  ec : EcKey → Key
  ed : EdKey → Key
  oct : Key

abbrev pub rsa_view : JwkPublicRsaKey → RsaKey
rsa_view k = record { n = string_bytes k.n; e = string_bytes k.e }

abbrev pub ec_view : JwkPublicEcKey → EcKey
ec_view k = record { crv = k.crv; x = string_bytes k.x; y = string_bytes k.y }

abbrev pub ed_view : JwkPublicEdKey → EdKey
ed_view k = record { crv = k.crv; x = string_bytes k.x }

abbrev pub key_view : JwkKeyType → Key
key_view (code.Rsa k) = rsa (rsa_view k)
key_view (code.Ec k) = ec (ec_view k)
key_view (code.Ed k) = ed (ed_view k)
key_view code.Oct = oct

abbrev pub is_rsa_key : Key → Bool
is_rsa_key (rsa k) = true
is_rsa_key (ec k) = false
is_rsa_key (ed k) = false
is_rsa_key oct = false

abbrev pub is_ec_key : Key → Bool
is_ec_key (rsa k) = false
is_ec_key (ec k) = true
is_ec_key (ed k) = false
is_ec_key oct = false

abbrev pub is_ed_key : Key → Bool
is_ed_key (rsa k) = false
is_ed_key (ec k) = false
is_ed_key (ed k) = true
is_ed_key oct = false

-- ---- names of curves and algorithms

abbrev pub curve_of : JwkEcPublicKeyCurve → EcCurve
curve_of P256 = NistP256
curve_of P384 = NistP384
curve_of P521 = NistP521

abbrev pub curve_named : EcCurve → JwkEcPublicKeyCurve
curve_named NistP256 = P256
curve_named NistP384 = P384
curve_named NistP521 = P521

abbrev pub ed_named : EdAlgorithm → JwkEdPublicKeyAlgorithm
ed_named Ed25519 = names.Ed25519
ed_named X25519 = names.X25519
