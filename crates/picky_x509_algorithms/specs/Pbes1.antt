-- Parameters of PBES1: SEQUENCE { salt OCTET STRING, iterations INTEGER } (RFC 7292 appendix C), and its ciphers by their identifiers.
use Rattle.std.specs.Prelude.{ℕ, List, [], ◌∷◌, Option, Some}
use Rattle.std.proofs.Common.{◌≡◌, refl}
use Rattle.picky_asn1_oid.specs.Arcs.{continued, base128}
use Rattle.picky_der.specs.Form.{Form}
use Rattle.picky_fields.specs.Fields.{Fields, octet_string, identifier, one, ◌and◌, seen, sequence}
use Rattle.picky_fields.specs.Names.{Names}
use Rattle.picky_fields.specs.laws.Fields.{Lawful, one_lawful, and_lawful, one_to_one, seen_lawful, sequence_lawful}
use Rattle.picky_fields.specs.laws.Plain.{octets_lawful}
use Rattle.picky_x509_algorithms.specs.declared.known_identifier.KnownIdentifier.{KnownIdentifier}
use Rattle.picky_x509_algorithms.specs.declared.known_identifier.KnownIdentifier.TheVariants as known
use Rattle.picky_x509_algorithms.specs.declared.pbes1.Pbes1Cipher.{Pbes1Cipher}
use Rattle.picky_x509_algorithms.specs.declared.pbes1.Pbes1Cipher.TheVariants.{ShaAnd40BitRc2Cbc, ShaAnd3Key3DesCbc}
use Rattle.picky_x509_algorithms.specs.declared.pbes1.Pbes1Params.{Pbes1Params}
use Rattle.picky_x509_algorithms.specs.Counts.{count, count_lawful}
use Rattle.picky_x509_algorithms.specs.Identifiers.{arcs, is_known, first_known}
use Rattle.picky_x509_algorithms.specs.laws.Identifiers.{names_of}

abbrev pub pbes1_of : List ℕ × ℕ → Pbes1Params
pbes1_of x = record { salt = x.0; iterations = x.1 }

abbrev pub pbes1_parts : Pbes1Params → List ℕ × ℕ
pbes1_parts p = (p.salt, p.iterations)

unfoldable pub pbes1_fields : Fields Pbes1Params
pbes1_fields = seen pbes1_of pbes1_parts (one octet_string and one count)

unfoldable pub pbes1_params : Form Pbes1Params
pbes1_params = sequence pbes1_fields

pub pbes1_params_lawful : Lawful pbes1_params
unfolding pbes1_params pbes1_fields
pbes1_params_lawful = sequence_lawful (seen_lawful (one_to_one {to = pbes1_of} {from = pbes1_parts} (λ _. refl) (λ _. refl)) (and_lawful (λ _ _. refl) (one_lawful octets_lawful) (one_lawful count_lawful)))

-- ---- ciphers

abbrev pub cipher_id : Pbes1Cipher → KnownIdentifier
cipher_id ShaAnd40BitRc2Cbc = known.PbeWithShaAnd40BitRc2Cbc
cipher_id ShaAnd3Key3DesCbc = known.PbeWithShaAnd3KeyTripleDesCbc

abbrev pub ciphers : List Pbes1Cipher
ciphers = ShaAnd40BitRc2Cbc ∷ ShaAnd3Key3DesCbc ∷ []

-- the cipher with this identifier
unfoldable pub cipher_name : List ℕ → Option Pbes1Cipher
cipher_name oid = first_known cipher_id ciphers oid

cipher_named : (c : Pbes1Cipher) → first_known cipher_id ciphers (arcs (cipher_id c)) ≡ Some c
unfolding arcs is_known base128 continued
cipher_named ShaAnd40BitRc2Cbc = refl
cipher_named ShaAnd3Key3DesCbc = refl

pub cipher_names : Names identifier.in_form (λ c. arcs (cipher_id c)) cipher_name
unfolding cipher_name
cipher_names = names_of cipher_id ciphers cipher_named
