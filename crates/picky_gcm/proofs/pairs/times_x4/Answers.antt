use Rattle.std.proofs.Common.{arith, ◌∙◌}
use Rattle.picky_gcm.proofs.PairSteps.{times_x4-pair}
use Rattle.picky_gcm.proofs.pairs.times_x4.Goals as goal

pub returns : goal.returns
returns c = c.add.ensures ∙ times_x4-pair c.args.pair.0 c.args.pair.1 c.reduced.result (omega arith) (omega arith) c.reduced.ensures.left
