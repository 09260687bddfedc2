use Rattle.std.proofs.Common.{arith}
use Rattle.picky_key_der.specs.laws.Grammar.{public_found, public_every}
use Rattle.picky_key_der.proofs.public.PublicKey.from_der.Goals as goal

pub returns-clause-found : goal.returns-clause-found
returns-clause-found c = public_found (λ k. k) c.args.bytes.now c.read_public.result (λ i. omega (arith, c.type_inv.bytes i)) c.read_public.ensures

pub returns-clause-every : goal.returns-clause-every
returns-clause-every c key p = public_every (λ k. k) c.args.bytes.now c.read_public.result key c.read_public.ensures p
