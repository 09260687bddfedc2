use Rattle.std.proofs.Common.{arith, ◌≡◌, ◌+◌, ◌++◌, length, take, ap, ◌∙◌, refl}
use Rattle.std.specs.Int.{to_be_bytes, w32}
use Rattle.sha2.specs.Sha256.{sha256}
use Rattle.picky_kdf.specs.ConcatKdf.{concat_kdf, other_info}
use Rattle.picky_kdf.proofs.Joins.{joined_more, joined_to, length_front, length_more}
use Rattle.picky_kdf.proofs.concat.concat_kdf.Goals as goal

pub loop-done-init : goal.loop-done-init
loop-done-init c = record { key = c.new-key.ensures.items; size = ap length c.new-key.ensures.items }

pub loop-done-preserved : goal.loop-done-preserved
loop-done-preserved c =
    let number : c.loop-done.done + 1 ≡ 1 + c.loop-done.done = omega arith in
    let sized : length c.numbered_hash-hash.result ≡ 32 = omega arith in
    record {
      key = c.in_ok-extend_from_slice.ensures.items
          ∙ joined_more (λ i. sha256 (to_be_bytes w32 i ++ c.args.secret.now ++ other_info c.args.algorithm.now c.args.apu.now c.args.apv.now c.args.size)) 1 c.loop-done.done (c.loop-done.done + 1) c.loop-done.key.items c.numbered_hash-hash.result c.loop-done.invariant.key c.numbered_hash-hash.ensures number;
      size = ap length c.in_ok-extend_from_slice.ensures.items ∙ length_more c.loop-done.key.items c.numbered_hash-hash.result c.loop-done.done 32 c.loop-done.invariant.size sized;
    }

pub returns-clause-key : goal.returns-clause-key
unfolding concat_kdf
returns-clause-key c =
    let all : c.loop-done.done ≡ c.parts_for-done-end.result = omega arith in
    c.truncate.ensures.items
    ∙ ap (take c.args.size) (c.loop-done.invariant.key ∙ joined_to (λ i. sha256 (to_be_bytes w32 i ++ c.args.secret.now ++ other_info c.args.algorithm.now c.args.apu.now c.args.apv.now c.args.size)) 1 c.loop-done.done _ 32 32 c.args.size all c.parts_for-done-end.ensures refl)

pub returns-clause-size : goal.returns-clause-size
returns-clause-size c =
    let all : c.loop-done.done ≡ c.parts_for-done-end.result = omega arith in
    length_front c.loop-done.key.items _ c.loop-done.done 32 c.args.size (omega arith) (all ∙ c.parts_for-done-end.ensures) c.loop-done.invariant.size c.truncate.ensures.items
