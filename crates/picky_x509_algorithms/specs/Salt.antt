-- The salt of PBKDF2: CHOICE { specified OCTET STRING, otherSource AlgorithmIdentifier } (RFC 8018 appendix A.2).
use Rattle.std.specs.Prelude.{ℕ, List, ◌⊎◌}
use Rattle.std.proofs.Common.{refl, inl, inr}
use Rattle.picky_der.specs.Form.{Form}
use Rattle.picky_fields.specs.declared.algorithm.AlgorithmIdentifier.{AlgorithmIdentifier}
use Rattle.picky_fields.specs.Algorithm.{algorithm, algorithm_lawful}
use Rattle.picky_fields.specs.Fields.{octet_string}
use Rattle.picky_fields.specs.Choice.{either}
use Rattle.picky_fields.specs.laws.Fields.{Lawful, other_tag}
use Rattle.picky_fields.specs.laws.Either.{either_lawful}
use Rattle.picky_fields.specs.laws.Plain.{octets_lawful}
use Rattle.picky_x509_algorithms.specs.declared.salt.Pbkdf2Salt.{Pbkdf2Salt}
use Rattle.picky_x509_algorithms.specs.declared.salt.Pbkdf2Salt.TheVariants.{Specified, OtherSource}

-- an algorithm, or octets, whose tag is the one that is expected
abbrev pub SaltValue : Type 0
SaltValue = AlgorithmIdentifier ⊎ List ℕ

abbrev pub salt_parts : Pbkdf2Salt → SaltValue
salt_parts (OtherSource a) = inl a
salt_parts (Specified octets) = inr octets

abbrev pub salt_of : SaltValue → Pbkdf2Salt
salt_of (inl a) = OtherSource a
salt_of (inr octets) = Specified octets

unfoldable pub salt : Form SaltValue
salt = either algorithm octet_string

pub salt_lawful : Lawful salt
unfolding salt algorithm
salt_lawful = either_lawful (other_tag 48 4 refl) algorithm_lawful octets_lawful
