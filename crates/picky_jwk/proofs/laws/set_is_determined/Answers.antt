use Rattle.picky_jwk.specs.laws.Once.{set_once}
use Rattle.picky_jwk.proofs.laws.set_is_determined.Goals as goal

pub returns : goal.returns
returns c = set_once
