use Rattle.picky_gate.proofs.Made.{verified_admissible}
use Rattle.picky_gate.proofs.laws.verified_token_is_admissible.Goals as goal

pub returns : goal.returns
returns g c = λ ring policy asked key h payload claims text. verified_admissible (g.R.SignatureRelation.relation c.args._relation.now) ring policy asked key h payload claims text
