use Rattle.std.proofs.Common.{◌≡◌, ◌*◌, length, min}
use Rattle.picky_gcm.specs.Counter.{counted_to}
use Rattle.picky_gcm.proofs.counter.count.Given as goal

abbrev pub invariant-loop-j : goal.invariant-loop-j
invariant-loop-j l = l.buffer ≡ counted_to l.aes l.nonce l.fn.buffer (64 * l.j)

abbrev pub invariant-loop-k : goal.invariant-loop-k
invariant-loop-k l = l.buffer ≡ counted_to l.aes l.nonce l.fn.buffer (min (16 * l.k) (length l.fn.buffer))
