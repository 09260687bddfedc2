use Rattle.std.proofs.Common.{arith, ◌∙◌}
use Rattle.picky_gcm.proofs.PairSteps.{times_x8-pair}
use Rattle.picky_gcm.proofs.pairs.times_x8.Goals as goal

pub returns : goal.returns
returns c =
    c.add.ensures ∙ times_x8-pair c.args.pair.0 c.args.pair.1 c.reduced-first.result c.reduced-last.result (omega arith) (omega arith) (omega arith)
    c.reduced-last.ensures.last c.reduced-first.ensures.left c.reduced-last.ensures.left
