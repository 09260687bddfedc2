use Rattle.std.proofs.Common.{arith}
use Rattle.picky_asn1_bits.proofs.LowBits.{low_bits_cleared, high_bits_kept}
use Rattle.picky_asn1_bits.proofs.bit_string.without_low_bits.Goals as goal

pub returns-clause-cleared : goal.returns-clause-cleared
returns-clause-cleared c = λ k low. low_bits_cleared c.args.byte c.args.count k (omega arith) (omega arith) low

pub returns-clause-kept : goal.returns-clause-kept
returns-clause-kept c = λ k high. high_bits_kept c.args.byte c.args.count k (omega arith) (omega arith) high
