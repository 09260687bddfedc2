use Rattle.std.proofs.Common.{arith, ◌∙◌}
use Rattle.picky_gcm.proofs.PairSteps.{times_x-even_pair, times_x-odd_pair}
use Rattle.picky_gcm.proofs.pairs.times_x.Goals as goal

pub returns-then-low-eq1 : goal.returns-then-low-eq1
returns-then-low-eq1 c = c.add.ensures ∙ times_x-odd_pair c.args.pair.0 c.args.pair.1 (omega arith) (omega arith) c.if-low-eq1.true

pub returns-else-low-eq1 : goal.returns-else-low-eq1
returns-else-low-eq1 c = times_x-even_pair c.args.pair.0 c.args.pair.1 (omega arith) (omega arith) (omega arith)
