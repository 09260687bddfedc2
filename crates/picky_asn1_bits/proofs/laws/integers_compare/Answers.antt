use Rattle.std.proofs.Common.{ap}
use Rattle.std.specs.Prelude.{Some}
use Rattle.picky_asn1_bits.proofs.Orders.{order_agrees}
use Rattle.picky_asn1_bits.proofs.laws.integers_compare.Goals as goal

pub returns-clause-order : goal.returns-clause-order
returns-clause-order c =
    let agrees = order_agrees c.args.integer.now.0 c.args.other.now.0 in
    ((λ equal. ap Some (agrees.0 equal)), (λ tie. agrees.1 (cc)))
