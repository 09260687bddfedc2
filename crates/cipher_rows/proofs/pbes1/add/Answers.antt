use Rattle.std.proofs.Common.{arith}
use Rattle.cipher_rows.proofs.Twice.{added-all}
use Rattle.cipher_rows.proofs.pbes1.add.Goals as goal

pub returns : goal.returns
returns c = added-all c.args.key.now c.args.block.now c.loop-i.block c.loop-i.invariant.size (λ k h. c.loop-i.invariant.done k (omega arith))
