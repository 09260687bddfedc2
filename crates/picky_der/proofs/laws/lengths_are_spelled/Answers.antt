use Rattle.std.proofs.Common.{arith}
use Rattle.picky_der.specs.laws.Lengths.{length_of-spells, spells-length_of}
use Rattle.picky_der.proofs.laws.lengths_are_spelled.Goals as goal

pub returns-clause-spelled : goal.returns-clause-spelled
returns-clause-spelled c = length_of-spells c.args.len (omega arith)

pub returns-clause-one : goal.returns-clause-one
returns-clause-one c bytes p = (spells-length_of bytes c.args.len p).0
