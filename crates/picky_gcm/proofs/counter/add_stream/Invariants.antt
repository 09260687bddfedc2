use Rattle.std.proofs.Common.{◌≡◌, ◌+◌, ◌*◌, List, ℕ}
use Rattle.picky_aes.specs.Cipher.{cipher}
use Rattle.picky_gcm.specs.Counter.{counted_to, counter_block}
use Rattle.picky_gcm.proofs.counter.add_stream.Given as goal

abbrev pub invariant-loop-i : goal.invariant-loop-i
invariant-loop-i l =
    (key nonce text : List ℕ) → l.stream ≡ cipher key (counter_block nonce (l.k + 1)) → l.fn.buffer ≡ counted_to key nonce text (16 * l.k)
    → l.buffer ≡ counted_to key nonce text (16 * l.k + l.i)
