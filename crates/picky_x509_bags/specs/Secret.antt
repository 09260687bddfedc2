-- Secrets in bags: SecretBag ::= SEQUENCE { secretTypeId OBJECT IDENTIFIER, secretValue [0] EXPLICIT ANY DEFINED BY secretTypeId } (RFC 7292 section 4.2.5).
use Rattle.std.specs.Prelude.{ℕ, List}
use Rattle.std.proofs.Common.{refl, arith}
use Rattle.picky_der.specs.Form.{Form}
use Rattle.picky_der.specs.Raw.{raw_form}
use Rattle.picky_fields.specs.Fields.{Fields, explicit, identifier, one, ◌and◌, seen, sequence}
use Rattle.picky_fields.specs.laws.Fields.{Lawful, explicit_lawful, one_lawful, and_lawful, one_to_one, seen_lawful, sequence_lawful}
use Rattle.picky_fields.specs.laws.Plain.{identifier_lawful, raw_lawful}
use Rattle.picky_x509_bags.specs.declared.secret.SecretBag.{SecretBag}

abbrev pub secret_of : List ℕ × List ℕ → SecretBag
secret_of x = record { type_id = x.0; value = x.1 }

abbrev pub secret_parts : SecretBag → List ℕ × List ℕ
secret_parts s = (s.type_id, s.value)

unfoldable pub secret_fields : Fields SecretBag
secret_fields = seen secret_of secret_parts (one identifier and one (explicit 0 raw_form))

unfoldable pub secret : Form SecretBag
secret = sequence secret_fields

-- ---- laws

pub secret_lawful : Lawful secret
unfolding secret secret_fields
secret_lawful = sequence_lawful (seen_lawful (one_to_one {to = secret_of} {from = secret_parts} (λ _. refl) (λ _. refl)) (and_lawful (λ _ _. refl) (one_lawful identifier_lawful) (one_lawful (explicit_lawful 0 (omega arith) raw_lawful))))
