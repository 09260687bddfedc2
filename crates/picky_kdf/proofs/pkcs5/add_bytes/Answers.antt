use Rattle.std.proofs.Common.{arith}
use Rattle.picky_kdf.proofs.Sums.{added_more}
use Rattle.picky_kdf.proofs.pkcs5.add_bytes.Goals as goal

pub loop-i-preserved : goal.loop-i-preserved
loop-i-preserved g c = added_more c.args.sum.now c.args.mac.now c.loop-i.sum c.loop-i.i (omega arith) (omega arith) c.loop-i.invariant
