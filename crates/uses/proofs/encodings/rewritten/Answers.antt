use Rattle.uses.proofs.Spelled.{wanted_alone}
use Rattle.uses.proofs.encodings.rewritten.Goals as goal

pub returns-in_err-value-clause-every : goal.returns-in_err-value-clause-every
returns-in_err-value-clause-every g c x s = wanted_alone g.T.DerForm.stands_for (g.T.DerForm.form.height c.args.bytes.now x s.1) c.in_err-value.field-0.0 x c.from_residual.result (c.in_err-value.ensures.every x s.0 s.1) c.from_residual.ensures.1
