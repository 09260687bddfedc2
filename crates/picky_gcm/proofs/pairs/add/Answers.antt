use Rattle.picky_gcm.proofs.PairSteps.{pair-xor}
use Rattle.picky_gcm.proofs.pairs.add.Goals as goal

pub returns : goal.returns
returns c = pair-xor c.args.a.0 c.args.a.1 c.args.b.0 c.args.b.1
