use Rattle.std.proofs.Common.{arith}
use Rattle.picky_modes.proofs.BlockLemmas.{xor-more}
use Rattle.picky_modes.proofs.block_cipher.xor_into.Goals as goal

pub loop-i-preserved : goal.loop-i-preserved
loop-i-preserved c = xor-more c.args.block.now c.args.mask.now c.loop-i.block c.loop-i.i (omega arith) (omega arith) c.loop-i.invariant
