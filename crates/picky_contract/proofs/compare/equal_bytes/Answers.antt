use Rattle.std.proofs.Common.{arith}
use Rattle.picky_contract.proofs.Differences.{same-more}
use Rattle.picky_contract.proofs.compare.equal_bytes.Goals as goal

pub loop-i-preserved : goal.loop-i-preserved
loop-i-preserved c = same-more c.args.a.now c.args.b.now c.loop-i.i c.loop-i.differing (omega arith) (omega arith) c.loop-i.invariant
