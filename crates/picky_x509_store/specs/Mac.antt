-- The MAC of a store: MacData ::= SEQUENCE { mac DigestInfo, macSalt OCTET STRING, iterations INTEGER DEFAULT 1 } (RFC 7292 section 4; the default is kept as it stands), DigestInfo ::= SEQUENCE { digestAlgorithm, digest OCTET STRING } (RFC 2315 section 9.4).
use Rattle.std.specs.Prelude.{ℕ, List, Option}
use Rattle.std.proofs.Common.{refl}
use Rattle.picky_der.specs.Form.{Form}
use Rattle.picky_fields.specs.Fields.{Fields, octet_string, one, optional, ◌and◌, seen, sequence}
use Rattle.picky_fields.specs.laws.Fields.{Lawful, one_lawful, and_lawful, one_to_one, seen_lawful, sequence_lawful}
use Rattle.picky_fields.specs.laws.Optional.{optional_lawful}
use Rattle.picky_fields.specs.laws.Plain.{octets_lawful}
use Rattle.picky_x509_algorithms.specs.declared.digest.Pkcs12DigestAlgorithm.{Pkcs12DigestAlgorithm}
use Rattle.picky_x509_algorithms.specs.Counts.{count, count_lawful}
use Rattle.picky_x509_algorithms.specs.Digest.{digest, digest_lawful}
use Rattle.picky_x509_store.specs.declared.mac.DigestInfo.{DigestInfo}
use Rattle.picky_x509_store.specs.declared.mac.MacData.{MacData}

abbrev pub digest_info_of : Pkcs12DigestAlgorithm × List ℕ → DigestInfo
digest_info_of x = record { digest_algorithm = x.0; digest = x.1 }

abbrev pub digest_info_parts : DigestInfo → Pkcs12DigestAlgorithm × List ℕ
digest_info_parts d = (d.digest_algorithm, d.digest)

unfoldable pub digest_info_fields : Fields DigestInfo
digest_info_fields = seen digest_info_of digest_info_parts (one digest and one octet_string)

unfoldable pub digest_info : Form DigestInfo
digest_info = sequence digest_info_fields

abbrev pub mac_of : (DigestInfo × List ℕ) × Option ℕ → MacData
mac_of x = record { mac = x.0.0; salt = x.0.1; iterations = x.1 }

abbrev pub mac_parts : MacData → (DigestInfo × List ℕ) × Option ℕ
mac_parts m = ((m.mac, m.salt), m.iterations)

unfoldable pub mac_fields : Fields MacData
mac_fields = seen mac_of mac_parts (one digest_info and one octet_string and optional count)

unfoldable pub mac_data : Form MacData
mac_data = sequence mac_fields

-- ---- laws

pub digest_info_lawful : Lawful digest_info
unfolding digest_info digest_info_fields
digest_info_lawful = sequence_lawful (seen_lawful (one_to_one {to = digest_info_of} {from = digest_info_parts} (λ _. refl) (λ _. refl)) (and_lawful (λ _ _. refl) (one_lawful digest_lawful) (one_lawful octets_lawful)))

pub mac_data_lawful : Lawful mac_data
unfolding mac_data mac_fields
mac_data_lawful =
    let salted = and_lawful (λ _ _. refl) (one_lawful digest_info_lawful) (one_lawful octets_lawful) in
    let number = optional_lawful count_lawful in
    sequence_lawful (seen_lawful (one_to_one {to = mac_of} {from = mac_parts} (λ _. refl) (λ _. refl)) (and_lawful (λ _ _. refl) salted number))
