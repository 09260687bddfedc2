use Rattle.picky_jwk_key.specs.Keys.{key_view}
use Rattle.picky_jwk_key.specs.laws.Public.{key_found, key_every}
use Rattle.picky_jwk_key.proofs.key.JwkKeyType.to_public_key.Goals as goal

pub returns-clause-found : goal.returns-clause-found
returns-clause-found c = key_found (λ p. p) (key_view c.args.self.now) c.public_key_of.result c.public_key_of.ensures

pub returns-clause-every : goal.returns-clause-every
returns-clause-every c = key_every (λ p. p) (key_view c.args.self.now) c.public_key_of.result c.public_key_of.ensures
