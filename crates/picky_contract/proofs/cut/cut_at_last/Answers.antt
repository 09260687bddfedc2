use Rattle.picky_contract.proofs.Cuts.{found_last, every_last}
use Rattle.picky_contract.proofs.cut.cut_at_last.Goals as goal

pub returns-clause-found : goal.returns-clause-found
returns-clause-found c = found_last c.args.mark c.args.text.now c.rsplit_once.result c.rsplit_once.ensures.cases c.requires

pub returns-clause-every : goal.returns-clause-every
returns-clause-every c = every_last c.args.mark c.args.text.now c.rsplit_once.result c.rsplit_once.ensures.cases c.requires
