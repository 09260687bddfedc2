use Rattle.picky_gate.proofs.Schemes.{wider}
use Rattle.picky_gate.proofs.scheme.scheme_of.Goals as goal

pub returns-in-None : goal.returns-in-None
returns-in-None c = wider c.args.text.now c.in-None.ensures.cases c.header_scheme.result c.header_scheme.ensures
