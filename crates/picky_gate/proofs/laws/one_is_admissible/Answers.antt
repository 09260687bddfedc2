use Rattle.picky_gate.proofs.Once.{one_admissible}
use Rattle.picky_gate.proofs.laws.one_is_admissible.Goals as goal

pub returns : goal.returns
returns g c = λ ring policy asked text a b h k. one_admissible (g.R.SignatureRelation.relation c.args._relation.now) ring policy asked text a b h k
