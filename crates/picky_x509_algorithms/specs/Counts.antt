-- Counts: INTEGERs of 32 bits without a sign.
use Rattle.std.specs.Prelude.{ℕ, ◌^◌}
use Rattle.std.proofs.Common.{arith}
use Rattle.picky_der.specs.Form.{Form}
use Rattle.picky_fields.specs.Fields.{natural}
use Rattle.picky_fields.specs.laws.Fields.{Lawful}
use Rattle.picky_fields.specs.laws.Plain.{natural_lawful}

unfoldable pub count : Form ℕ
count = natural (2 ^ 32)

pub count_lawful : Lawful count
unfolding count
count_lawful = natural_lawful (2 ^ 32) (omega arith)
