-- Algorithms told by a hash function's identifier, or by that of HMAC over it, with NULL or absent parameters (RFC 8017 appendix B.1, RFC 8018 appendix B.1), and any other algorithm.
use Rattle.std.specs.Prelude.{ℕ, List, [], ◌∷◌, Option, Some, ◌⊎◌}
use Rattle.std.proofs.Common.{◌≡◌, refl}
use Rattle.picky_asn1_oid.specs.Arcs.{continued, base128}
use Rattle.picky_fields.specs.Fields.{identifier, null_or_none}
use Rattle.picky_fields.specs.Choice.{Cases}
use Rattle.picky_fields.specs.Names.{among}
use Rattle.picky_fields.specs.laws.Optional.{null_or_none_lawful}
use Rattle.picky_fields.specs.laws.Choice.{LawfulCases}
use Rattle.picky_fields.specs.laws.Names.{among_lawful}
use Rattle.picky_x509_algorithms.specs.declared.known_identifier.KnownIdentifier.{KnownIdentifier}
use Rattle.picky_x509_algorithms.specs.declared.known_identifier.KnownIdentifier.TheVariants as known
use Rattle.picky_x509_algorithms.specs.declared.hash_name.HashName.{HashName}
use Rattle.picky_x509_algorithms.specs.declared.hash_name.HashName.TheVariants.{Sha1, Sha224, Sha256, Sha384, Sha512}
use Rattle.picky_x509_algorithms.specs.Identifiers.{arcs, is_known, first_known, other_algorithm}
use Rattle.picky_x509_algorithms.specs.laws.Identifiers.{names_of, other_lawful}

abbrev pub hashes : List HashName
hashes = Sha1 ∷ Sha224 ∷ Sha256 ∷ Sha384 ∷ Sha512 ∷ []

abbrev pub digest_id : HashName → KnownIdentifier
digest_id Sha1 = known.Sha1
digest_id Sha224 = known.Sha224
digest_id Sha256 = known.Sha256
digest_id Sha384 = known.Sha384
digest_id Sha512 = known.Sha512

abbrev pub prf_id : HashName → KnownIdentifier
prf_id Sha1 = known.HmacWithSha1
prf_id Sha224 = known.HmacWithSha224
prf_id Sha256 = known.HmacWithSha256
prf_id Sha384 = known.HmacWithSha384
prf_id Sha512 = known.HmacWithSha512

-- the hash function with this identifier, and that under the HMAC with it
unfoldable pub digest_name : List ℕ → Option HashName
digest_name oid = first_known digest_id hashes oid

unfoldable pub prf_name : List ℕ → Option HashName
prf_name oid = first_known prf_id hashes oid

abbrev pub HashValue : Type 0
HashValue = (HashName × Unit {0}) ⊎ (List ℕ × Option (List ℕ))

-- behind the identifier of a hash: NULL, which may be absent
unfoldable pub digest_cases : Cases (List ℕ) HashValue
digest_cases = among (λ n. arcs (digest_id n)) digest_name null_or_none other_algorithm

unfoldable pub prf_cases : Cases (List ℕ) HashValue
prf_cases = among (λ n. arcs (prf_id n)) prf_name null_or_none other_algorithm

-- ---- laws

digest_named : (n : HashName) → first_known digest_id hashes (arcs (digest_id n)) ≡ Some n
unfolding arcs is_known base128 continued
digest_named Sha1 = refl
digest_named Sha224 = refl
digest_named Sha256 = refl
digest_named Sha384 = refl
digest_named Sha512 = refl

prf_named : (n : HashName) → first_known prf_id hashes (arcs (prf_id n)) ≡ Some n
unfolding arcs is_known base128 continued
prf_named Sha1 = refl
prf_named Sha224 = refl
prf_named Sha256 = refl
prf_named Sha384 = refl
prf_named Sha512 = refl

pub digest_cases_lawful : LawfulCases identifier digest_cases
unfolding digest_cases digest_name
digest_cases_lawful = among_lawful (names_of digest_id hashes digest_named) null_or_none_lawful other_lawful

pub prf_cases_lawful : LawfulCases identifier prf_cases
unfolding prf_cases prf_name
prf_cases_lawful = among_lawful (names_of prf_id hashes prf_named) null_or_none_lawful other_lawful
