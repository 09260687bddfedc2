use Rattle.std.proofs.Common.{◌+◌, take, sym, subst, inl, inr}
use Rattle.std.proofs.lemmas.List.{map-id}
use Rattle.std.proofs.lemmas.Result.{err_from_is_err_and}
use Rattle.picky_asn1_wrapper.specs.Lists.{SpellsAll, SomeRefused}
use Rattle.picky_asn1_wrapper.specs.laws.Loops.{SomeRefused-at, SpellsAll-next}
use Rattle.picky_levels.specs.Nests.{nest_form}
use Rattle.picky_levels.proofs.writing.+write.Goals as goal

pub write_items-returns-in_err-write_levels-clause-err : goal.write_items-returns-in_err-write_levels-clause-err
write_items-returns-in_err-write_levels-clause-err g t c =
    let p = err_from_is_err_and c.from_residual.result c.from_residual.ensures.1 in
    let refused = (nest_form g.T.DerNested.nest c.args.levels).Refused in
    let items = c.args.items.now in
    rw (p.1, p.2) (elim c.in_err-write_levels.ensures.0 [
      | inl e ↦ inl e
      | inr e ↦ inr (e.0, subst (SomeRefused refused) (map-id items) (SomeRefused-at (λ x. x) refused items c.loop-item.item-index c.item-item.result c.loop-item-test.true c.item-item.is e.1))
    ])

pub write_items-loop-item-preserved : goal.write_items-loop-item-preserved
write_items-loop-item-preserved g t c =
    let a = c.in_ok-write_levels.ensures in
    let encodes = (nest_form g.T.DerNested.nest c.args.levels).Encodes in
    let items = c.args.items.now in
    let i = c.loop-item.item-index in
    let before = subst (SpellsAll encodes c.loop-item.out.items) (sym (map-id (take i items))) c.loop-item.invariant in
    subst (SpellsAll encodes c.write_levels.new.out.items) (map-id (take (i + 1) items)) (SpellsAll-next (λ x. x) encodes items i c.item-item.result c.loop-item.out.items a.encoding c.write_levels.new.out.items c.loop-item-test.true c.item-item.is before a.encoded a.new_is)
