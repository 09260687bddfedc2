use Rattle.std.proofs.Common.{arith}
use Rattle.picky_der.specs.Form.{whole}
use Rattle.picky_der.specs.laws.Lengths.{TailIsBytes-of}
use Rattle.picky_der.specs.laws.Steps.{IfOk-from}
use Rattle.picky_der.specs.laws.Whole.{whole_takes, whole_again, OkUnlessDeep-from}
use Rattle.picky_der.proofs.form.from_bytes.Goals as goal

pub returns-clause-found : goal.returns-clause-found
returns-clause-found g c =
    let f = g.T.DerForm.form in
    let bytes = c.args.bytes.now in
    IfOk-from g.T.DerForm.stands_for (λ x. f.in_form x × f.Spells bytes x) c.all.result (whole f.reading bytes) c.all.ensures
    (λ x e. whole_takes f g.met.T.DerRead.readable bytes x (TailIsBytes-of bytes (λ i. omega (arith, c.type_inv.bytes i))) e)

pub returns-clause-every : goal.returns-clause-every
returns-clause-every g c x formed p =
    let f = g.T.DerForm.form in
    let bytes = c.args.bytes.now in
    OkUnlessDeep-from g.T.DerForm.stands_for (f.height bytes x p) c.all.result (whole f.reading bytes) x c.all.ensures (whole_again f g.met.T.DerRead.readable bytes x formed p)
