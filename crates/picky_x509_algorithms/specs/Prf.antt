-- HMAC over hash functions: SEQUENCE { algorithm OBJECT IDENTIFIER, parameters NULL OPTIONAL } or any other AlgorithmIdentifier (RFC 8018 appendix B.1; NULL may be absent and is written).
use Rattle.std.proofs.Common.{◌≡◌, refl, inl, inr}
use Rattle.picky_der.specs.Form.{Form}
use Rattle.picky_fields.specs.Algorithm.{algorithm_of, parts_of}
use Rattle.picky_fields.specs.Fields.{Fields, identifier, seen, sequence}
use Rattle.picky_fields.specs.Choice.{told_by}
use Rattle.picky_fields.specs.laws.Fields.{Lawful, one_to_one, seen_lawful, sequence_lawful}
use Rattle.picky_fields.specs.laws.Choice.{told_lawful}
use Rattle.picky_fields.specs.laws.Plain.{identifier_lawful}
use Rattle.picky_x509_algorithms.specs.declared.hash_name.HashName.{HashName}
use Rattle.picky_x509_algorithms.specs.declared.hash_name.HashName.TheVariants as hash
use Rattle.picky_x509_algorithms.specs.declared.prf.Pbkdf2Prf.{Pbkdf2Prf}
use Rattle.picky_x509_algorithms.specs.declared.prf.Pbkdf2Prf.TheVariants.{HmacWithSha1, HmacWithSha224, HmacWithSha256, HmacWithSha384, HmacWithSha512, Unknown}
use Rattle.picky_x509_algorithms.specs.Hashes.{HashValue, prf_cases, prf_cases_lawful}

abbrev pub prf_by : HashName → Pbkdf2Prf
prf_by hash.Sha1 = HmacWithSha1
prf_by hash.Sha224 = HmacWithSha224
prf_by hash.Sha256 = HmacWithSha256
prf_by hash.Sha384 = HmacWithSha384
prf_by hash.Sha512 = HmacWithSha512

abbrev pub prf_of : HashValue → Pbkdf2Prf
prf_of (inl p) = prf_by p.0
prf_of (inr p) = Unknown (algorithm_of p)

abbrev pub prf_parts : Pbkdf2Prf → HashValue
prf_parts HmacWithSha1 = inl (hash.Sha1, tt)
prf_parts HmacWithSha224 = inl (hash.Sha224, tt)
prf_parts HmacWithSha256 = inl (hash.Sha256, tt)
prf_parts HmacWithSha384 = inl (hash.Sha384, tt)
prf_parts HmacWithSha512 = inl (hash.Sha512, tt)
prf_parts (Unknown a) = inr (parts_of a)

unfoldable pub prf_fields : Fields Pbkdf2Prf
prf_fields = seen prf_of prf_parts (told_by identifier prf_cases)

unfoldable pub prf : Form Pbkdf2Prf
prf = sequence prf_fields

prf_back : (p : Pbkdf2Prf) → prf_of (prf_parts p) ≡ p
prf_back HmacWithSha1 = refl
prf_back HmacWithSha224 = refl
prf_back HmacWithSha256 = refl
prf_back HmacWithSha384 = refl
prf_back HmacWithSha512 = refl
prf_back (Unknown a) = refl

named_forth : (n : HashName) → prf_parts (prf_by n) ≡ inl (n, tt)
named_forth hash.Sha1 = refl
named_forth hash.Sha224 = refl
named_forth hash.Sha256 = refl
named_forth hash.Sha384 = refl
named_forth hash.Sha512 = refl

prf_forth : (x : HashValue) → prf_parts (prf_of x) ≡ x
prf_forth (inl p) = named_forth p.0
prf_forth (inr p) = refl

pub prf_lawful : Lawful prf
unfolding prf prf_fields
prf_lawful = sequence_lawful (seen_lawful (one_to_one {to = prf_of} {from = prf_parts} prf_back prf_forth) (told_lawful identifier_lawful prf_cases_lawful))
