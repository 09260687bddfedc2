use Rattle.std.proofs.Common.{inl, inr}
use Rattle.picky_records.specs.Reading.{fault, agree_table}
use Rattle.picky_records.proofs.Exits.{exit}
use Rattle.picky_records.proofs.read.agree_of.Goals as goal

pub returns-in_err-secret : goal.returns-in_err-secret
unfolding agree_table
returns-in_err-secret c =
    exit (λ l. l) fault c.from_residual-in_err-secret.result c.in_err-secret.field-0.0 (agree_table c.args.number c.args.one.now c.args.other.now c.args.secret.now) _
    c.from_residual-in_err-secret.ensures.1 c.in_err-secret.ensures
    (λ f r. inr (c.in_ok-first.first, c.in_ok-first.ensures, inr (c.in_ok-second.second, c.in_ok-second.ensures, inl r)))
