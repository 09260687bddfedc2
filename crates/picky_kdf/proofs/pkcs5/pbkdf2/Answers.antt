use Rattle.std.proofs.Common.{arith, ◌≡◌, ◌+◌, ◌<◌, ap, length, ◌∙◌, take, sym}
use Rattle.std.proofs.lemmas.List.{length-take-le}
use Rattle.picky_kdf.proofs.Joins.{joined_more, joined_to, length_front, length_more}
use Rattle.picky_kdf.proofs.Sizes.{digest_size-ge, digest_size-le}
use Rattle.picky_kdf.specs.Hash.{digest_size}
use Rattle.picky_kdf.specs.Pbkdf2.{key_sum, pbkdf2}
use Rattle.picky_kdf.proofs.pkcs5.pbkdf2.Goals as goal

pub slice_bounds-extend_from_slice-end : goal.slice_bounds-extend_from_slice-end
slice_bounds-extend_from_slice-end c =
    sym (length-take-le c.digest_size-part.result c.key_sum-sum.result (omega (arith, digest_size-le c.args.hash)))

pub loop-done-init : goal.loop-done-init
loop-done-init c = record { key = c.new-key.ensures.items; size = omega (arith, ap length c.new-key.ensures.items) }

pub loop-done-preserved : goal.loop-done-preserved
loop-done-preserved c =
    let number : c.loop-done.done + 1 ≡ 1 + c.loop-done.done = omega arith in
    let part = take c.digest_size-part.result c.key_sum-sum.result in
    let sized : length part ≡ c.digest_size-part.result = length-take-le c.digest_size-part.result c.key_sum-sum.result (omega (arith, digest_size-le c.args.hash)) in
    record {
      key = c.in_ok-extend_from_slice.ensures.items
          ∙ joined_more (λ i. key_sum c.args.hash c.args.password.now c.args.salt.now i c.args.iterations) 1 c.loop-done.done (c.loop-done.done + 1) c.loop-done.key.items part c.loop-done.invariant.key
          (ap (λ n. take n c.key_sum-sum.result) c.digest_size-part.ensures ∙ c.key_sum-sum.ensures c.args.password.now c.new-hashers.ensures) number;
      size = ap length c.in_ok-extend_from_slice.ensures.items ∙ length_more c.loop-done.key.items part c.loop-done.done c.digest_size-part.result c.loop-done.invariant.size sized;
    }

pub returns-clause-key : goal.returns-clause-key
unfolding pbkdf2
returns-clause-key c =
    let all : c.loop-done.done ≡ c.parts_for-done-end.result = omega arith in
    c.truncate.ensures.items
    ∙ ap (take c.args.size) (c.loop-done.invariant.key ∙ joined_to (λ i. key_sum c.args.hash c.args.password.now c.args.salt.now i c.args.iterations) 1 c.loop-done.done _ c.digest_size-part.result (digest_size c.args.hash) c.args.size all c.parts_for-done-end.ensures c.digest_size-part.ensures)

pub returns-clause-size : goal.returns-clause-size
returns-clause-size c =
    let all : c.loop-done.done ≡ c.parts_for-done-end.result = omega arith in
    let some : 0 < c.digest_size-part.result = omega (arith, digest_size-ge c.args.hash) in
    length_front c.loop-done.key.items _ c.loop-done.done c.digest_size-part.result c.args.size some (all ∙ c.parts_for-done-end.ensures) c.loop-done.invariant.size c.truncate.ensures.items
