use Rattle.picky_jwk_names.specs.laws.Names.{jwa_apart}
use Rattle.picky_jwk_names.proofs.laws.algorithms_are_told_apart.Goals as goal

pub returns : goal.returns
returns c = jwa_apart
