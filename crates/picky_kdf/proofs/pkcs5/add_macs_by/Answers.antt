use Rattle.std.proofs.Common.{rules, ◌≡◌, ◌∙◌, length, ap, sym}
use Rattle.picky_kdf.proofs.Sums.{added_size, first-sum, next-iterated, next-sum}
use Rattle.picky_kdf.proofs.pkcs5.add_macs_by.Goals as goal

pub loop-done-init : goal.loop-done-init
loop-done-init g c =
    let f = g.H.HashFunction.function in
    let size : length c.copy_from_slice.new.self ≡ g.row.N = search rules in
    record {
      last_size = size;
      sum_size = size;
      summed = λ password salt number inner outer first.
          let last = c.copy_from_slice.ensures.after ∙ first in
          (last, first-sum f password salt number c.copy_from_slice.new.self (size ∙ sym c.requires.sized) last);
    }

pub loop-done-preserved : goal.loop-done-preserved
loop-done-preserved g c =
    let f = g.H.HashFunction.function in
    let last_size : length c.hash_after-last.result ≡ g.row.N = search rules in
    record {
      last_size = last_size;
      sum_size = ap length c.add_bytes.ensures ∙ added_size c.loop-done.sum c.hash_after-last.result (c.loop-done.invariant.sum_size ∙ sym last_size) ∙ c.loop-done.invariant.sum_size;
      summed = λ password salt number inner outer first.
          let before = c.loop-done.invariant.summed password salt number inner outer first in
          let last = next-iterated f password salt number c.loop-done.done c.loop-done.last c.hash_after.result c.hash_after-last.result before.0 (c.hash_after.ensures _ inner) (c.hash_after-last.ensures _ outer) in
          (last, next-sum f password salt number c.loop-done.done c.hash_after-last.result c.loop-done.sum c.add_bytes.new.sum before.1 last c.add_bytes.ensures);
    }
