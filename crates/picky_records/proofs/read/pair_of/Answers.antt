use Rattle.std.proofs.Common.{inl, inr}
use Rattle.picky_records.specs.Reading.{fault, pair_table}
use Rattle.picky_records.proofs.Exits.{exit}
use Rattle.picky_records.proofs.read.pair_of.Goals as goal

pub returns-in_err-public : goal.returns-in_err-public
unfolding pair_table
returns-in_err-public c =
    exit (λ l. l) fault c.from_residual-in_err-public.result c.in_err-public.field-0.0 (pair_table c.args.number c.args.pkcs8.now c.args.spki.now) _
    c.from_residual-in_err-public.ensures.1 c.in_err-public.ensures (λ f r. inr (c.in_ok-private.private, c.in_ok-private.ensures, inl r))
