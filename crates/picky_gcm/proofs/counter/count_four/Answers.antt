use Rattle.std.proofs.Common.{arith, ◌+◌, ◌*◌, List, ℕ}
use Rattle.picky_gcm.proofs.Stream.{counted-place, stream-place}
use Rattle.picky_gcm.proofs.counter.count_four.Goals as goal

pub returns : goal.returns
returns c = λ text e.
    let key : List ℕ = c.args.aes.now in
    let nonce : List ℕ = c.args.nonce.now in
    let k : ℕ = c.args.k in
    let one = c.add_stream.ensures key nonce text c.stream_block-first.ensures e in
    let two = c.add_stream-2.ensures key nonce text (stream-place key nonce _ (k + 2) (k + 1 + 1) (omega arith) c.stream_block-second.ensures) (counted-place key nonce text _ _ (16 * (k + 1)) (omega arith) one) in
    let three = c.add_stream-3.ensures key nonce text (stream-place key nonce _ (k + 3) (k + 2 + 1) (omega arith) c.stream_block-third.ensures) (counted-place key nonce text _ _ (16 * (k + 2)) (omega arith) two) in
    let four = c.add_stream-4.ensures key nonce text (stream-place key nonce _ (k + 4) (k + 3 + 1) (omega arith) c.stream_block-fourth.ensures) (counted-place key nonce text _ _ (16 * (k + 3)) (omega arith) three) in
    counted-place key nonce text _ _ (16 * k + 64) (omega arith) four
