use Rattle.picky_ring.specs.laws.Rings.{one_ring}
use Rattle.picky_ring.proofs.laws.ring_is_determined.Goals as goal

pub returns : goal.returns
returns c = one_ring
