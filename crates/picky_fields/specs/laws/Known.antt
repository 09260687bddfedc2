-- The laws of what stands behind a known identifier.
use Rattle.std.proofs.Common.{List, ℕ}
use Rattle.picky_fields.specs.Fields.{Fields, identifier}
use Rattle.picky_fields.specs.Choice.{Cases}
use Rattle.picky_fields.specs.Known.{known}
use Rattle.picky_fields.specs.laws.Fields.{LawfulFields}
use Rattle.picky_fields.specs.laws.Choice.{LawfulCases, case_lawful}
use Rattle.picky_fields.specs.laws.Identifiers.{Known, known_tells}

pub known_lawful : {X Z : Type 0} {arcs octets : List ℕ} {f : Fields X} {c : Cases (List ℕ) Z} → Known arcs octets → LawfulFields f → LawfulCases identifier c → LawfulCases identifier (known arcs octets f c)
known_lawful {arcs = arcs} {octets = octets} is law others = case_lawful (known_tells arcs octets is) law others
