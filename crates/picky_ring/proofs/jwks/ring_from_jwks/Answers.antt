use Rattle.picky_jwk.specs.Views.{set_view}
use Rattle.picky_ring.specs.laws.Rings.{ring_found, ring_every}
use Rattle.picky_ring.proofs.jwks.ring_from_jwks.Goals as goal

pub returns-clause-found : goal.returns-clause-found
returns-clause-found c = ring_found (λ r. r) (set_view c.args.set.now) c.ring_of.result c.ring_of.ensures

pub returns-clause-every : goal.returns-clause-every
returns-clause-every c = ring_every (λ r. r) (set_view c.args.set.now) c.ring_of.result c.ring_of.ensures
