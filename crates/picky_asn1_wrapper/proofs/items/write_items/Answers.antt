use Rattle.std.proofs.Common.{inl, inr}
use Rattle.std.proofs.lemmas.Result.{err_from_is_err_and}
use Rattle.picky_asn1_wrapper.specs.laws.Loops.{SomeRefused-at, SpellsAll-next}
use Rattle.picky_asn1_wrapper.proofs.items.write_items.Goals as goal

pub returns-in_err-write_der-clause-err : goal.returns-in_err-write_der-clause-err
returns-in_err-write_der-clause-err g c =
    let p = err_from_is_err_and c.from_residual.result c.from_residual.ensures.1 in
    rw (p.1, p.2) (elim c.in_err-write_der.ensures.0 [
      | inl e ↦ inl e
      | inr e ↦ inr (e.0, SomeRefused-at g.T.DerForm.stands_for g.T.DerForm.form.Refused c.args.items.now c.loop-item.item-index c.item-item.result c.loop-item-test.true c.item-item.is e.1)
    ])

pub loop-item-preserved : goal.loop-item-preserved
loop-item-preserved g c =
    let a = c.in_ok-write_der.ensures in
    SpellsAll-next g.T.DerForm.stands_for g.T.DerForm.form.Encodes c.args.items.now c.loop-item.item-index c.item-item.result c.loop-item.out.items a.encoding c.write_der.new.out.items c.loop-item-test.true c.item-item.is c.loop-item.invariant a.encoded a.new_is
