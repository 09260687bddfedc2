-- Certificates in bags: CertBag ::= SEQUENCE { certId OBJECT IDENTIFIER, certValue [0] EXPLICIT ANY DEFINED BY certId }, x509Certificate OCTET STRING (RFC 7292 section 4.2.3).
use Rattle.std.specs.Prelude.{ℕ, List, ◌⊎◌}
use Rattle.std.proofs.Common.{◌≡◌, refl, arith, inl, inr}
use Rattle.picky_der.specs.Form.{Form}
use Rattle.picky_der.specs.Raw.{raw_form}
use Rattle.picky_fields.specs.Fields.{Fields, explicit, identifier, octet_string, one, seen, sequence}
use Rattle.picky_fields.specs.Choice.{Cases, case, otherwise, told_by}
use Rattle.picky_fields.specs.laws.Fields.{Lawful, explicit_lawful, one_lawful, one_to_one, seen_lawful, sequence_lawful}
use Rattle.picky_fields.specs.laws.Choice.{LawfulCases, case_lawful, otherwise_lawful, told_lawful}
use Rattle.picky_fields.specs.laws.Plain.{identifier_lawful, octets_lawful, raw_lawful}
use Rattle.picky_x509_algorithms.specs.declared.known_identifier.KnownIdentifier.TheVariants as known
use Rattle.picky_x509_algorithms.specs.Identifiers.{arcs, is_known}
use Rattle.picky_x509_algorithms.specs.laws.Identifiers.{tells}
use Rattle.picky_x509_bags.specs.declared.certificate.CertificateBag.{CertificateBag}
use Rattle.picky_x509_bags.specs.declared.certificate.CertificateBag.TheVariants.{X509, Unknown}

abbrev pub CertificateValue : Type 0
CertificateValue = List ℕ ⊎ (List ℕ × List ℕ)

abbrev pub certificate_of : CertificateValue → CertificateBag
certificate_of (inl octets) = X509 octets
certificate_of (inr p) = Unknown p.0 p.1

abbrev pub certificate_parts : CertificateBag → CertificateValue
certificate_parts (X509 octets) = inl octets
certificate_parts (Unknown id value) = inr (id, value)

unfoldable pub certificate_cases : Cases (List ℕ) CertificateValue
certificate_cases = case (arcs known.X509Certificate) (is_known known.X509Certificate) (one (explicit 0 octet_string)) (otherwise (one (explicit 0 raw_form)))

unfoldable pub certificate_fields : Fields CertificateBag
certificate_fields = seen certificate_of certificate_parts (told_by identifier certificate_cases)

unfoldable pub certificate : Form CertificateBag
certificate = sequence certificate_fields

-- ---- laws

certificate_back : (c : CertificateBag) → certificate_of (certificate_parts c) ≡ c
certificate_back (X509 octets) = refl
certificate_back (Unknown id value) = refl

certificate_forth : (x : CertificateValue) → certificate_parts (certificate_of x) ≡ x
certificate_forth (inl octets) = refl
certificate_forth (inr p) = refl

certificate_cases_lawful : LawfulCases identifier certificate_cases
unfolding certificate_cases
certificate_cases_lawful =
    case_lawful (tells known.X509Certificate) (one_lawful (explicit_lawful 0 (omega arith) octets_lawful)) (otherwise_lawful (one_lawful (explicit_lawful 0 (omega arith) raw_lawful)))

pub certificate_lawful : Lawful certificate
unfolding certificate certificate_fields
certificate_lawful = sequence_lawful (seen_lawful (one_to_one {to = certificate_of} {from = certificate_parts} certificate_back certificate_forth) (told_lawful identifier_lawful certificate_cases_lawful))
