-- The signature algorithm of a name, and the name of a signature algorithm (RFC 7518, section 3.1; RFC 8037, section 3.1).
use Rattle.std.specs.Prelude.{Option, Some, None}
use Rattle.picky_key.specs.declared.algorithm.SignatureAlgorithm.{SignatureAlgorithm}
use Rattle.picky_key.specs.declared.algorithm.SignatureAlgorithm.TheVariants.{RsaPkcs1v15, Ecdsa, Ed25519}
use Rattle.picky_key.specs.declared.algorithm.HashAlgorithm.TheVariants.{SHA2_256, SHA2_384, SHA2_512}
use Rattle.picky_jwk_names.specs.declared.alg.JwsAlg.{JwsAlg}
use Rattle.picky_jwk_names.specs.declared.alg.JwsAlg.TheVariants as alg

-- the algorithm of a name: HMAC and RSASSA-PSS have none here
abbrev pub algorithm_of : JwsAlg → Option SignatureAlgorithm
algorithm_of alg.RS256 = Some (RsaPkcs1v15 SHA2_256)
algorithm_of alg.RS384 = Some (RsaPkcs1v15 SHA2_384)
algorithm_of alg.RS512 = Some (RsaPkcs1v15 SHA2_512)
algorithm_of alg.ES256 = Some (Ecdsa SHA2_256)
algorithm_of alg.ES384 = Some (Ecdsa SHA2_384)
algorithm_of alg.ES512 = Some (Ecdsa SHA2_512)
algorithm_of alg.EdDSA = Some Ed25519
algorithm_of alg.ED25519 = Some Ed25519
algorithm_of _ = None

-- the name of an algorithm: other hashes have none, and of the two names of Ed25519 it is EdDSA
abbrev pub name_of : SignatureAlgorithm → Option JwsAlg
name_of (RsaPkcs1v15 SHA2_256) = Some alg.RS256
name_of (RsaPkcs1v15 SHA2_384) = Some alg.RS384
name_of (RsaPkcs1v15 SHA2_512) = Some alg.RS512
name_of (Ecdsa SHA2_256) = Some alg.ES256
name_of (Ecdsa SHA2_384) = Some alg.ES384
name_of (Ecdsa SHA2_512) = Some alg.ES512
name_of Ed25519 = Some alg.EdDSA
name_of _ = None
