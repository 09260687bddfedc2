use Rattle.std.proofs.Common.{arith, length, ◌*◌, ◌+◌, min}
use Rattle.picky_gcm.proofs.Stream.{counted-all, counted-none, counted-place}
use Rattle.picky_gcm.proofs.counter.count.Goals as goal

pub loop-j-init : goal.loop-j-init
loop-j-init c = counted-none c.args.aes.now c.args.nonce.now c.args.buffer.now

pub loop-j-preserved : goal.loop-j-preserved
loop-j-preserved c =
    counted-place c.args.aes.now c.args.nonce.now c.args.buffer.now _ (16 * (4 * c.loop-j.j) + 64) (64 * (c.loop-j.j + 1)) (omega arith)
    (c.count_four.ensures c.args.buffer.now
    (counted-place c.args.aes.now c.args.nonce.now c.args.buffer.now _ (64 * c.loop-j.j) (16 * (4 * c.loop-j.j)) (omega arith) c.loop-j.invariant))

pub loop-k-init : goal.loop-k-init
loop-k-init c = counted-place c.args.aes.now c.args.nonce.now c.args.buffer.now _ (64 * c.loop-j.j) _ (omega arith) c.loop-j.invariant

pub loop-k-preserved : goal.loop-k-preserved
loop-k-preserved c =
    counted-place c.args.aes.now c.args.nonce.now c.args.buffer.now _ (16 * c.loop-k.k + c.min.result) (min (16 * (c.loop-k.k + 1)) (length c.args.buffer.now)) (omega arith)
    (c.add_stream.ensures c.args.aes.now c.args.nonce.now c.args.buffer.now c.stream_block-stream.ensures
    (counted-place c.args.aes.now c.args.nonce.now c.args.buffer.now _ (min (16 * c.loop-k.k) (length c.args.buffer.now)) (16 * c.loop-k.k) (omega arith) c.loop-k.invariant))

pub returns : goal.returns
returns c =
    counted-all c.args.aes.now c.args.nonce.now c.args.buffer.now _ (min (16 * c.loop-k.k) (length c.args.buffer.now)) (omega arith) c.loop-k.invariant
