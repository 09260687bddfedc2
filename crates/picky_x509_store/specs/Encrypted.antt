-- An encrypted part: EncryptedData ::= SEQUENCE { version INTEGER (0), encryptedContentInfo SEQUENCE { contentType id-data, contentEncryptionAlgorithm, encryptedContent [0] IMPLICIT OCTET STRING OPTIONAL } } (RFC 5652 sections 6.1 and 8).
use Rattle.std.specs.Prelude.{ℕ, ◌^◌, ◌==◌, List, Option}
use Rattle.std.proofs.Common.{Ok, refl, sym, ap, ◌∙◌, arith}
use Rattle.std.proofs.lemmas.Bool.{eqb-true}
use Rattle.picky_der.specs.Form.{Form}
use Rattle.picky_der.specs.Primitive.{Decodes, primitive_form}
use Rattle.picky_der.specs.Strings.{octets_contents}
use Rattle.picky_der.specs.laws.Primitives.{primitive_readable, primitive_writable}
use Rattle.picky_der.specs.laws.Steps.{ok_is}
use Rattle.picky_fields.specs.Fields.{Fields, Tells, natural, identifier, one, only, optional, ◌and◌, seen, sequence}
use Rattle.picky_fields.specs.laws.Fields.{Lawful, one_lawful, and_lawful, one_to_one, seen_lawful, sequence_lawful}
use Rattle.picky_fields.specs.laws.Optional.{only_lawful, optional_lawful}
use Rattle.picky_fields.specs.laws.Plain.{identifier_lawful, natural_lawful}
use Rattle.picky_x509_algorithms.specs.declared.known_identifier.KnownIdentifier.TheVariants as known
use Rattle.picky_x509_algorithms.specs.declared.encryption.Pkcs12EncryptionAlgorithm.{Pkcs12EncryptionAlgorithm}
use Rattle.picky_x509_algorithms.specs.Identifiers.{arcs, is_known}
use Rattle.picky_x509_algorithms.specs.Encryption.{encryption, encryption_lawful}
use Rattle.picky_x509_algorithms.specs.laws.Identifiers.{tells}
use Rattle.picky_x509_store.specs.declared.encrypted.EncryptedSafeContents.{EncryptedSafeContents}

-- an OCTET STRING in an implicit tag 0
unfoldable pub tagged_octets : Form (List ℕ)
tagged_octets = primitive_form (record { 0 = 128 }) octets_contents

-- the type, which is data
abbrev pub only_data : Fields (Unit {0})
only_data = only (arcs known.Data) (is_known known.Data) identifier

-- the version, which is 0
abbrev pub only_zero : Fields (Unit {0})
only_zero = only 0 (λ n. n == 0) (natural (2 ^ 8))

abbrev pub InfoValue : Type 0
InfoValue = (Unit {0} × Pkcs12EncryptionAlgorithm) × Option (List ℕ)

-- the type, the algorithm, and the encrypted bytes
unfoldable pub info : Form InfoValue
info = sequence (only_data and one encryption and optional tagged_octets)

abbrev pub encrypted_of : Unit {0} × InfoValue → EncryptedSafeContents
encrypted_of x = record { algorithm = x.1.0.1; encrypted_content = x.1.1 }

abbrev pub info_view : EncryptedSafeContents → InfoValue
info_view e = ((tt, e.algorithm), e.encrypted_content)

abbrev pub encrypted_parts : EncryptedSafeContents → Unit {0} × InfoValue
encrypted_parts e = (tt, info_view e)

unfoldable pub encrypted_fields : Fields EncryptedSafeContents
encrypted_fields = seen encrypted_of encrypted_parts (only_zero and one info)

unfoldable pub encrypted : Form EncryptedSafeContents
encrypted = sequence encrypted_fields

-- ---- laws

octets_decode : Decodes octets_contents
octets_decode = record {
  takes = λ octets x _ e. (tt, ok_is octets x e);
  again = λ octets x _ same. ap (λ (o : List ℕ). Ok o) same;
  has_octets = λ _ _. refl;
  one = λ s t x _ p q. p ∙ sym q;
}

tagged_lawful : Lawful tagged_octets
unfolding tagged_octets
tagged_lawful = record { readable = primitive_readable (record { 0 = 128 }) octets_contents octets_decode; writable = primitive_writable (record { 0 = 128 }) octets_contents octets_decode (λ h. absurd (omega arith)) }

info_lawful : Lawful info
unfolding info tagged_octets
info_lawful = sequence_lawful (and_lawful (λ _ _. refl) (and_lawful (λ _ _. refl) (only_lawful (tells known.Data) identifier_lawful) (one_lawful encryption_lawful)) (optional_lawful tagged_lawful))

zero_tells : Tells (natural (2 ^ 8)).in_form 0 (λ n. n == 0)
zero_tells = record { formed = omega arith; holds = refl; alone = λ n _ e. eqb-true n 0 e }

pub encrypted_lawful : Lawful encrypted
unfolding encrypted encrypted_fields
encrypted_lawful = sequence_lawful (seen_lawful (one_to_one {to = encrypted_of} {from = encrypted_parts} (λ _. refl) (λ _. refl)) (and_lawful (λ _ _. refl) (only_lawful zero_tells (natural_lawful (2 ^ 8) (omega arith))) (one_lawful info_lawful)))
