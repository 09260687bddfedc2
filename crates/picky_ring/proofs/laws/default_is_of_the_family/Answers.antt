use Rattle.picky_ring.specs.laws.Defaults.{default_fits}
use Rattle.picky_ring.proofs.laws.default_is_of_the_family.Goals as goal

pub returns : goal.returns
returns c = default_fits
