use Rattle.std.proofs.Common.{arith}
use Rattle.picky_asn1_bits.proofs.Numbers.{positive_first}
use Rattle.picky_asn1_bits.proofs.integer.is_nonnegative.Goals as goal

pub returns-in-len1-up : goal.returns-in-len1-up
returns-in-len1-up c = positive_first c.args.bytes.now c.in-len1-up.len_at_least (λ i. omega (arith, c.type_inv.bytes i))
