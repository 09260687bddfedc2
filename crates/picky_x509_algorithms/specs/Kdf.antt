-- Key derivation in PBES2: PBKDF2 with its parameters (RFC 8018 appendix A.2), and any other algorithm.
use Rattle.std.specs.Prelude.{ℕ, List, Option, ◌⊎◌}
use Rattle.std.proofs.Common.{◌≡◌, refl, inl, inr}
use Rattle.picky_der.specs.Form.{Form}
use Rattle.picky_fields.specs.Algorithm.{algorithm_of, parts_of}
use Rattle.picky_fields.specs.Fields.{Fields, identifier, one, seen, sequence}
use Rattle.picky_fields.specs.Choice.{Cases, case, told_by}
use Rattle.picky_fields.specs.laws.Fields.{Lawful, one_lawful, one_to_one, seen_lawful, sequence_lawful}
use Rattle.picky_fields.specs.laws.Choice.{LawfulCases, case_lawful, told_lawful}
use Rattle.picky_fields.specs.laws.Plain.{identifier_lawful}
use Rattle.picky_x509_algorithms.specs.declared.known_identifier.KnownIdentifier.TheVariants as known
use Rattle.picky_x509_algorithms.specs.declared.kdf.Pbes2Kdf.{Pbes2Kdf}
use Rattle.picky_x509_algorithms.specs.declared.kdf.Pbes2Kdf.TheVariants.{Pbkdf2, Unknown}
use Rattle.picky_x509_algorithms.specs.declared.pbkdf2.Pbkdf2Params.{Pbkdf2Params}
use Rattle.picky_x509_algorithms.specs.Identifiers.{arcs, is_known, other_algorithm}
use Rattle.picky_x509_algorithms.specs.Pbkdf2.{pbkdf2}
use Rattle.picky_x509_algorithms.specs.laws.Identifiers.{tells, other_lawful}
use Rattle.picky_x509_algorithms.specs.laws.Pbkdf2.{pbkdf2_lawful}

abbrev pub KdfValue : Type 0
KdfValue = Pbkdf2Params ⊎ (List ℕ × Option (List ℕ))

abbrev pub kdf_of : KdfValue → Pbes2Kdf
kdf_of (inl p) = Pbkdf2 p
kdf_of (inr p) = Unknown (algorithm_of p)

abbrev pub kdf_parts : Pbes2Kdf → KdfValue
kdf_parts (Pbkdf2 p) = inl p
kdf_parts (Unknown a) = inr (parts_of a)

unfoldable pub kdf_cases : Cases (List ℕ) KdfValue
kdf_cases = case (arcs known.Pbkdf2) (is_known known.Pbkdf2) (one pbkdf2) other_algorithm

unfoldable pub kdf_fields : Fields Pbes2Kdf
kdf_fields = seen kdf_of kdf_parts (told_by identifier kdf_cases)

unfoldable pub kdf : Form Pbes2Kdf
kdf = sequence kdf_fields

-- ---- laws

kdf_back : (k : Pbes2Kdf) → kdf_of (kdf_parts k) ≡ k
kdf_back (Pbkdf2 p) = refl
kdf_back (Unknown a) = refl

kdf_forth : (x : KdfValue) → kdf_parts (kdf_of x) ≡ x
kdf_forth (inl p) = refl
kdf_forth (inr p) = refl

kdf_cases_lawful : LawfulCases identifier kdf_cases
unfolding kdf_cases
kdf_cases_lawful = case_lawful (tells known.Pbkdf2) (one_lawful pbkdf2_lawful) other_lawful

pub kdf_lawful : Lawful kdf
unfolding kdf kdf_fields
kdf_lawful = sequence_lawful (seen_lawful (one_to_one {to = kdf_of} {from = kdf_parts} kdf_back kdf_forth) (told_lawful identifier_lawful kdf_cases_lawful))
