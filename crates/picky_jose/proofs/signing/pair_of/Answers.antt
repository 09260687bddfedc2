use Rattle.std.proofs.Common.{arith}
use Rattle.picky_jose.proofs.Giving.{pair_given}
use Rattle.picky_jose.proofs.signing.pair_of.Goals as goal

pub returns-in-Ok : goal.returns-in-Ok
returns-in-Ok c =
    pair_given c.requires.0 c.args.der.now c.in-Ok.pair (λ i. omega (arith, c.type_inv.der i)) c.requires.1 c.in-Ok.ensures.first c.in-Ok.ensures.found.0 c.in-Ok.ensures.found.1
