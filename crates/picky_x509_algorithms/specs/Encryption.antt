-- Encryption algorithms of PKCS #12: schemes of PBES1 (RFC 7292 appendix C), PBES2 with SEQUENCE { keyDerivationFunc, encryptionScheme } (RFC 8018 appendix A.4), and any other algorithm.
use Rattle.std.specs.Prelude.{ℕ, List, Option, ◌⊎◌}
use Rattle.std.proofs.Common.{◌≡◌, refl, inl, inr}
use Rattle.picky_der.specs.Form.{Form}
use Rattle.picky_fields.specs.Algorithm.{algorithm_of, parts_of}
use Rattle.picky_fields.specs.Fields.{Fields, identifier, one, ◌and◌, seen, sequence}
use Rattle.picky_fields.specs.Choice.{Cases, case, told_by}
use Rattle.picky_fields.specs.Names.{among}
use Rattle.picky_fields.specs.laws.Fields.{Lawful, one_lawful, and_lawful, one_to_one, seen_lawful, sequence_lawful}
use Rattle.picky_fields.specs.laws.Choice.{LawfulCases, case_lawful, told_lawful}
use Rattle.picky_fields.specs.laws.Names.{among_lawful}
use Rattle.picky_fields.specs.laws.Plain.{identifier_lawful}
use Rattle.picky_x509_algorithms.specs.declared.known_identifier.KnownIdentifier.TheVariants as known
use Rattle.picky_x509_algorithms.specs.declared.aes.Pbes2Scheme.{Pbes2Scheme}
use Rattle.picky_x509_algorithms.specs.declared.kdf.Pbes2Kdf.{Pbes2Kdf}
use Rattle.picky_x509_algorithms.specs.declared.pbes1.Pbes1Cipher.{Pbes1Cipher}
use Rattle.picky_x509_algorithms.specs.declared.pbes1.Pbes1Params.{Pbes1Params}
use Rattle.picky_x509_algorithms.specs.declared.encryption.Pbes2Params.{Pbes2Params}
use Rattle.picky_x509_algorithms.specs.declared.encryption.Pkcs12EncryptionAlgorithm.{Pkcs12EncryptionAlgorithm}
use Rattle.picky_x509_algorithms.specs.declared.encryption.Pkcs12EncryptionAlgorithm.TheVariants.{Pbes1, Pbes2, Unknown}
use Rattle.picky_x509_algorithms.specs.Aes.{scheme, scheme_lawful}
use Rattle.picky_x509_algorithms.specs.Identifiers.{arcs, is_known, other_algorithm}
use Rattle.picky_x509_algorithms.specs.Kdf.{kdf, kdf_lawful}
use Rattle.picky_x509_algorithms.specs.Pbes1.{pbes1_params, pbes1_params_lawful, cipher_id, cipher_name, cipher_names}
use Rattle.picky_x509_algorithms.specs.laws.Identifiers.{tells, other_lawful}

abbrev pub pbes2_of : Pbes2Kdf × Pbes2Scheme → Pbes2Params
pbes2_of x = record { kdf = x.0; scheme = x.1 }

abbrev pub pbes2_parts : Pbes2Params → Pbes2Kdf × Pbes2Scheme
pbes2_parts p = (p.kdf, p.scheme)

unfoldable pub pbes2_fields : Fields Pbes2Params
pbes2_fields = seen pbes2_of pbes2_parts (one kdf and one scheme)

unfoldable pub pbes2_params : Form Pbes2Params
pbes2_params = sequence pbes2_fields

abbrev pub EncryptionValue : Type 0
EncryptionValue = (Pbes1Cipher × Pbes1Params) ⊎ (Pbes2Params ⊎ (List ℕ × Option (List ℕ)))

abbrev pub encryption_of : EncryptionValue → Pkcs12EncryptionAlgorithm
encryption_of (inl p) = Pbes1 p.0 p.1
encryption_of (inr (inl p)) = Pbes2 p
encryption_of (inr (inr p)) = Unknown (algorithm_of p)

abbrev pub encryption_parts : Pkcs12EncryptionAlgorithm → EncryptionValue
encryption_parts (Pbes1 kind params) = inl (kind, params)
encryption_parts (Pbes2 params) = inr (inl params)
encryption_parts (Unknown a) = inr (inr (parts_of a))

unfoldable pub encryption_cases : Cases (List ℕ) EncryptionValue
encryption_cases = among (λ c. arcs (cipher_id c)) cipher_name (one pbes1_params) (case (arcs known.Pbes2) (is_known known.Pbes2) (one pbes2_params) other_algorithm)

unfoldable pub encryption_fields : Fields Pkcs12EncryptionAlgorithm
encryption_fields = seen encryption_of encryption_parts (told_by identifier encryption_cases)

unfoldable pub encryption : Form Pkcs12EncryptionAlgorithm
encryption = sequence encryption_fields

-- ---- laws

pub pbes2_params_lawful : Lawful pbes2_params
unfolding pbes2_params pbes2_fields
pbes2_params_lawful = sequence_lawful (seen_lawful (one_to_one {to = pbes2_of} {from = pbes2_parts} (λ _. refl) (λ _. refl)) (and_lawful (λ _ _. refl) (one_lawful kdf_lawful) (one_lawful scheme_lawful)))

encryption_back : (a : Pkcs12EncryptionAlgorithm) → encryption_of (encryption_parts a) ≡ a
encryption_back (Pbes1 kind params) = refl
encryption_back (Pbes2 params) = refl
encryption_back (Unknown a) = refl

encryption_forth : (x : EncryptionValue) → encryption_parts (encryption_of x) ≡ x
encryption_forth (inl p) = refl
encryption_forth (inr (inl p)) = refl
encryption_forth (inr (inr p)) = refl

encryption_cases_lawful : LawfulCases identifier encryption_cases
unfolding encryption_cases
encryption_cases_lawful = among_lawful cipher_names (one_lawful pbes1_params_lawful) (case_lawful (tells known.Pbes2) (one_lawful pbes2_params_lawful) other_lawful)

pub encryption_lawful : Lawful encryption
unfolding encryption encryption_fields
encryption_lawful = sequence_lawful (seen_lawful (one_to_one {to = encryption_of} {from = encryption_parts} encryption_back encryption_forth) (told_lawful identifier_lawful encryption_cases_lawful))
