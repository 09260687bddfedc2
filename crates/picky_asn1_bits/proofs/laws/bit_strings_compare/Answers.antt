use Rattle.picky_asn1_bits.proofs.Orders.{order_agrees}
use Rattle.picky_asn1_bits.proofs.laws.bit_strings_compare.Goals as goal

pub returns-clause-order : goal.returns-clause-order
returns-clause-order c = order_agrees c.args.bits.now c.args.other.now
