use Rattle.picky_key_der.specs.laws.Writing.{der_found, der_every}
use Rattle.picky_key_der.proofs.public.PublicKey.to_der.Goals as goal

pub returns-clause-found : goal.returns-clause-found
returns-clause-found c = der_found (λ v. v.items) c.args.self.now c.der_of.result c.der_of.ensures

pub returns-clause-every : goal.returns-clause-every
returns-clause-every c = der_every (λ v. v.items) c.args.self.now c.der_of.result c.der_of.ensures
