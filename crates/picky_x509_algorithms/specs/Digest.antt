-- Hash functions: SEQUENCE { algorithm OBJECT IDENTIFIER, parameters NULL OPTIONAL } or any other AlgorithmIdentifier (RFC 8017 appendix B.1; NULL may be absent and is written).
use Rattle.std.proofs.Common.{◌≡◌, refl, inl, inr}
use Rattle.picky_der.specs.Form.{Form}
use Rattle.picky_fields.specs.Algorithm.{algorithm_of, parts_of}
use Rattle.picky_fields.specs.Fields.{Fields, identifier, seen, sequence}
use Rattle.picky_fields.specs.Choice.{told_by}
use Rattle.picky_fields.specs.laws.Fields.{Lawful, one_to_one, seen_lawful, sequence_lawful}
use Rattle.picky_fields.specs.laws.Choice.{told_lawful}
use Rattle.picky_fields.specs.laws.Plain.{identifier_lawful}
use Rattle.picky_x509_algorithms.specs.declared.hash_name.HashName.{HashName}
use Rattle.picky_x509_algorithms.specs.declared.hash_name.HashName.TheVariants as hash
use Rattle.picky_x509_algorithms.specs.declared.digest.Pkcs12DigestAlgorithm.{Pkcs12DigestAlgorithm}
use Rattle.picky_x509_algorithms.specs.declared.digest.Pkcs12DigestAlgorithm.TheVariants.{Sha1, Sha224, Sha256, Sha384, Sha512, Unknown}
use Rattle.picky_x509_algorithms.specs.Hashes.{HashValue, digest_cases, digest_cases_lawful}

abbrev pub digest_by : HashName → Pkcs12DigestAlgorithm
digest_by hash.Sha1 = Sha1
digest_by hash.Sha224 = Sha224
digest_by hash.Sha256 = Sha256
digest_by hash.Sha384 = Sha384
digest_by hash.Sha512 = Sha512

abbrev pub digest_of : HashValue → Pkcs12DigestAlgorithm
digest_of (inl p) = digest_by p.0
digest_of (inr p) = Unknown (algorithm_of p)

abbrev pub digest_parts : Pkcs12DigestAlgorithm → HashValue
digest_parts Sha1 = inl (hash.Sha1, tt)
digest_parts Sha224 = inl (hash.Sha224, tt)
digest_parts Sha256 = inl (hash.Sha256, tt)
digest_parts Sha384 = inl (hash.Sha384, tt)
digest_parts Sha512 = inl (hash.Sha512, tt)
digest_parts (Unknown a) = inr (parts_of a)

unfoldable pub digest_fields : Fields Pkcs12DigestAlgorithm
digest_fields = seen digest_of digest_parts (told_by identifier digest_cases)

unfoldable pub digest : Form Pkcs12DigestAlgorithm
digest = sequence digest_fields

digest_back : (d : Pkcs12DigestAlgorithm) → digest_of (digest_parts d) ≡ d
digest_back Sha1 = refl
digest_back Sha224 = refl
digest_back Sha256 = refl
digest_back Sha384 = refl
digest_back Sha512 = refl
digest_back (Unknown a) = refl

named_forth : (n : HashName) → digest_parts (digest_by n) ≡ inl (n, tt)
named_forth hash.Sha1 = refl
named_forth hash.Sha224 = refl
named_forth hash.Sha256 = refl
named_forth hash.Sha384 = refl
named_forth hash.Sha512 = refl

digest_forth : (x : HashValue) → digest_parts (digest_of x) ≡ x
digest_forth (inl p) = named_forth p.0
digest_forth (inr p) = refl

pub digest_lawful : Lawful digest
unfolding digest digest_fields
digest_lawful = sequence_lawful (seen_lawful (one_to_one {to = digest_of} {from = digest_parts} digest_back digest_forth) (told_lawful identifier_lawful digest_cases_lawful))
