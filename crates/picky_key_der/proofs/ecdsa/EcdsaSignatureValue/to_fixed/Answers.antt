use Rattle.picky_key_der.specs.laws.Ecdsa.{fixed_found, fixed_every}
use Rattle.picky_key_der.proofs.ecdsa.EcdsaSignatureValue.to_fixed.Goals as goal

pub returns-clause-found : goal.returns-clause-found
returns-clause-found c = fixed_found (λ v. v.items) c.args.size c.args.self.now c.fixed_pair.result c.fixed_pair.ensures

pub returns-clause-every : goal.returns-clause-every
returns-clause-every c = fixed_every (λ v. v.items) c.args.size c.args.self.now c.fixed_pair.result c.fixed_pair.ensures
