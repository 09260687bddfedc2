use Rattle.picky_asn1_wrapper.specs.laws.Implicit.{written-some}
use Rattle.picky_asn1_wrapper.proofs.implicit.ImplicitContextTagDerWrite.write_der.Goals as goal

pub set_first-requires : goal.set_first-requires
set_first-requires g c =
    written-some g.T.DerForm.form g.met.T.DerWrite.writable c.new-value.result.items c.write_der.new.out.items (g.T.DerForm.stands_for c.args.self.now.0) c.new-value.ensures.items c.in_ok-write_der.ensures
