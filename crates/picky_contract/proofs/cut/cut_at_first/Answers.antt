use Rattle.picky_contract.proofs.Cuts.{found_first, every_first}
use Rattle.picky_contract.proofs.cut.cut_at_first.Goals as goal

pub returns-clause-found : goal.returns-clause-found
returns-clause-found c = found_first c.args.mark c.args.text.now c.split_once.result c.split_once.ensures.cases c.requires

pub returns-clause-every : goal.returns-clause-every
returns-clause-every c = every_first c.args.mark c.args.text.now c.split_once.result c.split_once.ensures.cases c.requires
