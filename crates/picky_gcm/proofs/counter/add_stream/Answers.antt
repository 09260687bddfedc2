use Rattle.std.proofs.Common.{arith, ◌+◌, ◌*◌, refl}
use Rattle.picky_gcm.proofs.Stream.{counted-place, counted-more}
use Rattle.picky_gcm.proofs.counter.add_stream.Goals as goal

pub loop-i-init : goal.loop-i-init
loop-i-init c = λ key nonce text e old. counted-place key nonce text _ (16 * c.args.k) _ (omega arith) old

pub loop-i-preserved : goal.loop-i-preserved
loop-i-preserved c = λ key nonce text e old.
    counted-place key nonce text _ (16 * c.args.k + c.loop-i.i + 1) _ (omega arith)
    (counted-more key nonce text c.args.buffer.now c.loop-i.buffer c.args.stream.now c.args.k c.loop-i.i c.args.count (16 * c.args.k + c.loop-i.i)
    (omega arith) (omega arith) refl (omega arith) e old (c.loop-i.invariant key nonce text e old))

pub returns : goal.returns
returns c = λ key nonce text e old. counted-place key nonce text _ _ _ (omega arith) (c.loop-i.invariant key nonce text e old)
