use Rattle.picky_jwk_key.specs.laws.Public.{one_key}
use Rattle.picky_jwk_key.proofs.laws.key_is_determined.Goals as goal

pub returns : goal.returns
returns c = one_key
