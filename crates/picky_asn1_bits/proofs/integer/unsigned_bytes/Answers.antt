use Rattle.std.proofs.Common.{arith}
use Rattle.picky_asn1_bits.proofs.Numbers.{int_of-positive}
use Rattle.picky_asn1_bits.proofs.integer.unsigned_bytes.Goals as goal

pub returns-in_default-2-clause-number : goal.returns-in_default-2-clause-number
returns-in_default-2-clause-number c = int_of-positive c.args.bytes.now (λ i. omega (arith, c.type_inv.bytes i))
