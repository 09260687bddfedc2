use Rattle.picky_key_der.specs.laws.Writing.{components_found, components_every}
use Rattle.picky_key_der.proofs.public.PublicKey.from_ec_components.Goals as goal

pub returns-clause-found : goal.returns-clause-found
returns-clause-found c = components_found (λ k. k) c.args.curve c.args.x.now c.args.y.now c.key_of_coordinates.result c.key_of_coordinates.ensures

pub returns-clause-every : goal.returns-clause-every
returns-clause-every c = components_every (λ k. k) c.args.curve c.args.x.now c.args.y.now c.key_of_coordinates.result c.key_of_coordinates.ensures
