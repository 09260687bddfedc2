use Rattle.picky_gcm.proofs.PairSteps.{REDUCTION-is, REDUCTION-whole}
use Rattle.picky_gcm.proofs.pairs.reduced.Goals as goal

pub returns-clause-left : goal.returns-clause-left
returns-clause-left c = REDUCTION-is c.args.fallen c.requires

pub returns-clause-last : goal.returns-clause-last
returns-clause-last c = REDUCTION-whole c.args.fallen c.requires
