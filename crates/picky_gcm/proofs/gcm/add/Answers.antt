use Rattle.std.proofs.Common.{arith}
use Rattle.picky_gcm.proofs.Sealing.{add_bytes-more}
use Rattle.picky_gcm.proofs.gcm.add.Goals as goal

pub loop-i-preserved : goal.loop-i-preserved
loop-i-preserved c = add_bytes-more c.args.block.now c.args.other.now c.loop-i.block c.loop-i.i (omega arith) (omega arith) c.loop-i.invariant
