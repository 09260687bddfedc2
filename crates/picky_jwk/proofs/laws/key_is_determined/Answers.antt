use Rattle.picky_jwk.specs.laws.Once.{jwk_once}
use Rattle.picky_jwk.proofs.laws.key_is_determined.Goals as goal

pub returns : goal.returns
returns c = jwk_once
