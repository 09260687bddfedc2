-- Signature algorithms by the names of tokens (RFC 7518 section 3.1; RFC 8037 section 3.1), and the one of a key that names none (own).
use Rattle.std.specs.Prelude.{Option, Some, None}
use Rattle.picky_key.specs.declared.algorithm.HashAlgorithm.{HashAlgorithm}
use Rattle.picky_key.specs.declared.algorithm.HashAlgorithm.TheVariants.{SHA2_256, SHA2_384, SHA2_512}
use Rattle.picky_key.specs.declared.algorithm.SignatureAlgorithm.{SignatureAlgorithm}
use Rattle.picky_key.specs.declared.algorithm.SignatureAlgorithm.TheVariants.{RsaPkcs1v15, Ecdsa, Ed25519}
use Rattle.picky_jwk_names.specs.declared.alg.JwsAlg.{JwsAlg}
use Rattle.picky_jwk_names.specs.declared.alg.JwsAlg.TheVariants as alg
use Rattle.picky_jwk_names.specs.declared.curve.JwkEcPublicKeyCurve.{JwkEcPublicKeyCurve}
use Rattle.picky_jwk_names.specs.declared.curve.JwkEcPublicKeyCurve.TheVariants.{P256, P384, P521}
use Rattle.picky_jwk_names.specs.declared.edwards.JwkEdPublicKeyAlgorithm.{JwkEdPublicKeyAlgorithm}
use Rattle.picky_jwk_names.specs.declared.edwards.JwkEdPublicKeyAlgorithm.TheVariants as edwards
use Rattle.picky_jwk_names.specs.declared.jwa.Jwa.{Jwa}
use Rattle.picky_jwk_names.specs.declared.jwa.Jwa.TheVariants.{Sig, Enc, CEKAlg}
use Rattle.picky_jwk_key.specs.Keys.{Key, rsa, ec, ed, oct}

-- the algorithm of a name; HMAC and RSASSA-PSS, which nothing here checks, have none
abbrev pub algorithm_of : JwsAlg → Option SignatureAlgorithm
algorithm_of alg.RS256 = Some (RsaPkcs1v15 SHA2_256)
algorithm_of alg.RS384 = Some (RsaPkcs1v15 SHA2_384)
algorithm_of alg.RS512 = Some (RsaPkcs1v15 SHA2_512)
algorithm_of alg.ES256 = Some (Ecdsa SHA2_256)
algorithm_of alg.ES384 = Some (Ecdsa SHA2_384)
algorithm_of alg.ES512 = Some (Ecdsa SHA2_512)
algorithm_of alg.EdDSA = Some Ed25519
algorithm_of alg.ED25519 = Some Ed25519
algorithm_of _ = None

-- the same of a name of any kind; a name of encryption has none
abbrev pub algorithm_named : Jwa → Option SignatureAlgorithm
algorithm_named (Sig a) = algorithm_of a
algorithm_named (Enc a) = None
algorithm_named (CEKAlg a) = None

-- ---- the algorithm of a key that names none

abbrev pub hash_of : JwkEcPublicKeyCurve → HashAlgorithm
hash_of P256 = SHA2_256
hash_of P384 = SHA2_384
hash_of P521 = SHA2_512

abbrev pub edwards_default : JwkEdPublicKeyAlgorithm → Option SignatureAlgorithm
edwards_default edwards.Ed25519 = Some Ed25519
edwards_default edwards.Ed448 = None
edwards_default edwards.X25519 = None
edwards_default edwards.X448 = None

-- octet sequences, Ed448, X25519 and X448 check no signature, and have none
abbrev pub default_of : Key → Option SignatureAlgorithm
default_of (rsa k) = Some (RsaPkcs1v15 SHA2_256)
default_of (ec k) = Some (Ecdsa (hash_of k.crv))
default_of (ed k) = edwards_default k.crv
default_of oct = None

-- the algorithm of a key with this `alg` and this default: that of its `alg`, or the default where it has none
abbrev pub algorithm_asked : Option Jwa → SignatureAlgorithm → Option SignatureAlgorithm
algorithm_asked None default = Some default
algorithm_asked (Some a) default = algorithm_named a
