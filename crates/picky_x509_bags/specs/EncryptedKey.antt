-- Encrypted keys in bags: EncryptedPrivateKeyInfo ::= SEQUENCE { encryptionAlgorithm, encryptedData OCTET STRING } (RFC 5958 section 3, RFC 7292 section 4.2.2).
use Rattle.std.specs.Prelude.{ℕ, List}
use Rattle.std.proofs.Common.{refl}
use Rattle.picky_der.specs.Form.{Form}
use Rattle.picky_fields.specs.Fields.{Fields, octet_string, one, ◌and◌, seen, sequence}
use Rattle.picky_fields.specs.laws.Fields.{Lawful, one_lawful, and_lawful, one_to_one, seen_lawful, sequence_lawful}
use Rattle.picky_fields.specs.laws.Plain.{octets_lawful}
use Rattle.picky_x509_algorithms.specs.declared.encryption.Pkcs12EncryptionAlgorithm.{Pkcs12EncryptionAlgorithm}
use Rattle.picky_x509_algorithms.specs.Encryption.{encryption, encryption_lawful}
use Rattle.picky_x509_bags.specs.declared.encrypted_key.EncryptedKeyBag.{EncryptedKeyBag}

abbrev pub encrypted_key_of : Pkcs12EncryptionAlgorithm × List ℕ → EncryptedKeyBag
encrypted_key_of x = record { algorithm = x.0; encrypted_data = x.1 }

abbrev pub encrypted_key_parts : EncryptedKeyBag → Pkcs12EncryptionAlgorithm × List ℕ
encrypted_key_parts k = (k.algorithm, k.encrypted_data)

unfoldable pub encrypted_key_fields : Fields EncryptedKeyBag
encrypted_key_fields = seen encrypted_key_of encrypted_key_parts (one encryption and one octet_string)

unfoldable pub encrypted_key : Form EncryptedKeyBag
encrypted_key = sequence encrypted_key_fields

-- ---- laws

pub encrypted_key_lawful : Lawful encrypted_key
unfolding encrypted_key encrypted_key_fields
encrypted_key_lawful = sequence_lawful (seen_lawful (one_to_one {to = encrypted_key_of} {from = encrypted_key_parts} (λ _. refl) (λ _. refl)) (and_lawful (λ _ _. refl) (one_lawful encryption_lawful) (one_lawful octets_lawful)))
