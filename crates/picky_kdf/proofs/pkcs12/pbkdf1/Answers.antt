use Rattle.std.proofs.Common.{arith, ◌≡◌, ◌*◌, ◌/◌, ◌<◌, length, take, refl, sym, ap, ◌∙◌}
use Rattle.std.proofs.lemmas.List.{length-take-le}
use Rattle.picky_kdf.specs.Hash.{digest_size}
use Rattle.picky_kdf.specs.Pkcs12Kdf.{pbkdf1}
use Rattle.picky_kdf.proofs.Joins.{joined_more, joined_to, length_front, length_more}
use Rattle.picky_kdf.proofs.Rounds.{round-is, round_at, text_more, text_none, whole_none, written_over}
use Rattle.picky_kdf.proofs.Sizes.{block_size-ge, digest_size-ge, digest_size-le}
use Rattle.picky_kdf.proofs.pkcs12.pbkdf1.Goals as goal

pub loop-done-init : goal.loop-done-init
loop-done-init c = record {
  whole = whole_none c.block_size-block.result c.args.salt.now c.args.password.now c.in_ok-text.text.items (omega (arith, block_size-ge c.args.hash)) c.in_ok-text.ensures;
  text = text_none c.args.hash c.args.password.now c.args.salt.now c.args.kdf_iterations c.args.usage c.block_size-block.result c.in_ok-text.text.items c.block_size-block.ensures c.in_ok-text.ensures;
  key = c.new-key.ensures.items;
  size = omega (arith, ap length c.new-key.ensures.items);
}

pub loop-done-preserved : goal.loop-done-preserved
loop-done-preserved c =
    let hash = c.args.hash in
    let password = c.args.password.now in
    let salt = c.args.salt.now in
    let r = c.args.kdf_iterations in
    let usage = c.args.usage in
    let i = c.loop-done.done in
    let over = written_over c.loop-done.text.len c.next_text.new.text c.loop-done.text.items (omega arith) (omega arith) in
    let kept : length c.next_text.new.text ≡ length c.loop-done.text.items = omega arith in
    let size = ap length over ∙ kept in
    let front = round-is hash password salt r usage i c.block_size-block.result c.id-diversifier.result _ c.deref.result.now c.round_hash-digest.result c.block_size-block.ensures c.id-diversifier.ensures refl
    (c.deref.ensures.value ∙ c.loop-done.invariant.text) c.round_hash-digest.ensures in
    let digest = ap (λ n. take n c.round_hash-digest.result) c.digest_size-part.ensures ∙ front in
    record {
      whole = size ∙ c.loop-done.invariant.whole ∙ ap (λ n. n / c.block_size-block.result * c.block_size-block.result) (sym size);
      text = over ∙ text_more hash password salt r usage i c.block_size-block.result c.deref_mut.result.now c.next_text.new.text _ c.block_size-block.ensures (c.deref_mut.ensures.value ∙ c.loop-done.invariant.text) digest c.next_text.ensures;
      key = c.in_ok-extend_from_slice.ensures.items ∙ joined_more (round_at hash password salt r usage) 0 i i c.loop-done.key.items _ c.loop-done.invariant.key digest (omega arith);
      size = ap length c.in_ok-extend_from_slice.ensures.items ∙ length_more c.loop-done.key.items _ c.loop-done.done c.digest_size-part.result c.loop-done.invariant.size
          (length-take-le c.digest_size-part.result c.round_hash-digest.result (omega (arith, digest_size-le hash)));
    }

pub returns-clause-key : goal.returns-clause-key
unfolding pbkdf1
returns-clause-key c =
    let all : c.loop-done.done ≡ c.parts_for-done-end.result = omega arith in
    c.truncate.ensures.items
    ∙ ap (take c.args.output_size) (c.loop-done.invariant.key ∙ joined_to (round_at c.args.hash c.args.password.now c.args.salt.now c.args.kdf_iterations c.args.usage) 0 c.loop-done.done _ c.digest_size-part.result (digest_size c.args.hash) c.args.output_size all c.parts_for-done-end.ensures c.digest_size-part.ensures)

pub returns-clause-size : goal.returns-clause-size
returns-clause-size c =
    let all : c.loop-done.done ≡ c.parts_for-done-end.result = omega arith in
    let some : 0 < c.digest_size-part.result = omega (arith, digest_size-ge c.args.hash) in
    length_front c.loop-done.key.items _ c.loop-done.done c.digest_size-part.result c.args.output_size some (all ∙ c.parts_for-done-end.ensures) c.loop-done.invariant.size c.truncate.ensures.items
