-- Which signature algorithms are of the family of a key (RFC 8017, section 8.2; FIPS 186-5, section 6; RFC 8032; RFC 7748 for X25519, which has none).
use Rattle.std.specs.Prelude.{Bool, true, false}
use Rattle.picky_key_der.specs.declared.public.PublicKeyKind.{PublicKeyKind}
use Rattle.picky_key_der.specs.declared.public.PublicKeyKind.TheVariants.{Rsa, Ec, Ed}
use Rattle.picky_key_der.specs.declared.algorithm.NamedEcCurve.TheVariants.{Known}
use Rattle.picky_key_der.specs.declared.algorithm.EdAlgorithm.TheVariants as ed
use Rattle.picky_key.specs.declared.algorithm.SignatureAlgorithm.{SignatureAlgorithm}
use Rattle.picky_key.specs.declared.algorithm.SignatureAlgorithm.TheVariants.{RsaPkcs1v15, Ecdsa, Ed25519}

-- whether the algorithm is of the key's family; a key on a curve that isn't known has no algorithms
abbrev pub is_of_family : SignatureAlgorithm → PublicKeyKind → Bool
is_of_family (RsaPkcs1v15 hash) (Rsa modulus exponent) = true
is_of_family (Ecdsa hash) (Ec (Known curve) point) = true
is_of_family Ed25519 (Ed ed.Ed25519 bytes) = true
is_of_family _ _ = false
