use Rattle.std.proofs.Common.{sym}
use Rattle.picky_records.proofs.Words.{no_pair, no_agree, no_sig}
use Rattle.picky_records.proofs.read.form_of.Goals as goal

pub returns-else-eq : goal.returns-else-eq
returns-else-eq c = no_pair c.args.number c.args.fields.now _ c.in-len3.len_at_least c.in-len3.len_below (sym c.if-eq.ensures)

pub returns-else-eq-2 : goal.returns-else-eq-2
returns-else-eq-2 c = no_agree c.args.number c.args.fields.now _ c.in-len4.len_at_least c.in-len4.len_below (sym c.if-eq-2.ensures)

pub returns-else-eq-4 : goal.returns-else-eq-4
returns-else-eq-4 c = no_sig c.args.number c.args.fields.now _ c.in-len5.len_at_least c.in-len5.len_below (sym c.if-eq-3.ensures) (sym c.if-eq-4.ensures)
