-- Schemes of PBES2: AES in CBC mode, whose parameter is the initialization vector as an OCTET STRING (RFC 8018 appendix B.2.5), and any other algorithm.
use Rattle.std.specs.Prelude.{ℕ, List, [], ◌∷◌, Option, Some, ◌⊎◌}
use Rattle.std.proofs.Common.{◌≡◌, refl, inl, inr}
use Rattle.picky_asn1_oid.specs.Arcs.{continued, base128}
use Rattle.picky_der.specs.Form.{Form}
use Rattle.picky_fields.specs.Algorithm.{algorithm_of, parts_of}
use Rattle.picky_fields.specs.Fields.{Fields, identifier, octet_string, one, seen, sequence}
use Rattle.picky_fields.specs.Choice.{Cases, told_by}
use Rattle.picky_fields.specs.Names.{among}
use Rattle.picky_fields.specs.laws.Fields.{Lawful, one_lawful, one_to_one, seen_lawful, sequence_lawful}
use Rattle.picky_fields.specs.laws.Choice.{LawfulCases, told_lawful}
use Rattle.picky_fields.specs.laws.Names.{among_lawful}
use Rattle.picky_fields.specs.laws.Plain.{identifier_lawful, octets_lawful}
use Rattle.picky_x509_algorithms.specs.declared.known_identifier.KnownIdentifier.{KnownIdentifier}
use Rattle.picky_x509_algorithms.specs.declared.known_identifier.KnownIdentifier.TheVariants as known
use Rattle.picky_x509_algorithms.specs.declared.aes.AesCbcKind.{AesCbcKind}
use Rattle.picky_x509_algorithms.specs.declared.aes.AesCbcKind.TheVariants.{Aes128, Aes192, Aes256}
use Rattle.picky_x509_algorithms.specs.declared.aes.Pbes2Scheme.{Pbes2Scheme}
use Rattle.picky_x509_algorithms.specs.declared.aes.Pbes2Scheme.TheVariants.{AesCbc, Unknown}
use Rattle.picky_x509_algorithms.specs.Identifiers.{arcs, is_known, first_known, other_algorithm}
use Rattle.picky_x509_algorithms.specs.laws.Identifiers.{names_of, other_lawful}

abbrev pub aes_id : AesCbcKind → KnownIdentifier
aes_id Aes128 = known.Aes128Cbc
aes_id Aes192 = known.Aes192Cbc
aes_id Aes256 = known.Aes256Cbc

abbrev pub aes_kinds : List AesCbcKind
aes_kinds = Aes128 ∷ Aes192 ∷ Aes256 ∷ []

-- AES with the key size of this identifier
unfoldable pub aes_name : List ℕ → Option AesCbcKind
aes_name oid = first_known aes_id aes_kinds oid

abbrev pub SchemeValue : Type 0
SchemeValue = (AesCbcKind × List ℕ) ⊎ (List ℕ × Option (List ℕ))

abbrev pub scheme_of : SchemeValue → Pbes2Scheme
scheme_of (inl p) = AesCbc p.0 p.1
scheme_of (inr p) = Unknown (algorithm_of p)

abbrev pub scheme_parts : Pbes2Scheme → SchemeValue
scheme_parts (AesCbc kind iv) = inl (kind, iv)
scheme_parts (Unknown a) = inr (parts_of a)

unfoldable pub scheme_cases : Cases (List ℕ) SchemeValue
scheme_cases = among (λ k. arcs (aes_id k)) aes_name (one octet_string) other_algorithm

unfoldable pub scheme_fields : Fields Pbes2Scheme
scheme_fields = seen scheme_of scheme_parts (told_by identifier scheme_cases)

unfoldable pub scheme : Form Pbes2Scheme
scheme = sequence scheme_fields

-- ---- laws

aes_named : (k : AesCbcKind) → first_known aes_id aes_kinds (arcs (aes_id k)) ≡ Some k
unfolding arcs is_known base128 continued
aes_named Aes128 = refl
aes_named Aes192 = refl
aes_named Aes256 = refl

scheme_back : (s : Pbes2Scheme) → scheme_of (scheme_parts s) ≡ s
scheme_back (AesCbc kind iv) = refl
scheme_back (Unknown a) = refl

scheme_forth : (x : SchemeValue) → scheme_parts (scheme_of x) ≡ x
scheme_forth (inl p) = refl
scheme_forth (inr p) = refl

scheme_cases_lawful : LawfulCases identifier scheme_cases
unfolding scheme_cases aes_name
scheme_cases_lawful = among_lawful (names_of aes_id aes_kinds aes_named) (one_lawful octets_lawful) other_lawful

pub scheme_lawful : Lawful scheme
unfolding scheme scheme_fields
scheme_lawful = sequence_lawful (seen_lawful (one_to_one {to = scheme_of} {from = scheme_parts} scheme_back scheme_forth) (told_lawful identifier_lawful scheme_cases_lawful))
