use Rattle.std.proofs.Common.{arith}
use Rattle.picky_key_private.specs.laws.Grammar.{private_found, private_every}
use Rattle.picky_key_private.proofs.private.PrivateKey.from_pkcs8.Goals as goal

pub returns-clause-found : goal.returns-clause-found
returns-clause-found c = private_found c.args.bytes.now c.read.result (λ i. omega (arith, c.type_inv.bytes i)) c.read.ensures

pub returns-clause-every : goal.returns-clause-every
returns-clause-every c key p = private_every c.args.bytes.now c.read.result key c.read.ensures p
