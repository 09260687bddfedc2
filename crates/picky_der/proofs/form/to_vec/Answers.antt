use Rattle.picky_der.specs.laws.Whole.{encoding_appended, raw_appended}
use Rattle.picky_der.proofs.form.to_vec.Goals as goal

pub returns-clause-encoding : goal.returns-clause-encoding
returns-clause-encoding g c =
    let x = g.T.DerForm.stands_for c.args.value.now in
    let a = c.in_ok-write_der.ensures in
    encoding_appended g.T.DerForm.form g.met.T.DerWrite.writable c.new-out.result.items c.write_der.new.out.items x c.new-out.ensures.items a

pub returns-clause-raw : goal.returns-clause-raw
returns-clause-raw g c =
    let x = g.T.DerForm.stands_for c.args.value.now in
    let a = c.in_ok-write_der.ensures in
    raw_appended g.T.DerForm.form g.met.T.DerWrite.writable c.new-out.result.items c.write_der.new.out.items x c.new-out.ensures.items a
