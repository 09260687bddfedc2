use Rattle.std.proofs.Common.{◌+◌}
use Rattle.picky_contract.specs.laws.Tables.{up}
use Rattle.picky_records.specs.Cutting.{fields_in}
use Rattle.picky_records.specs.Reading.{fault, form_table, standing, row}
use Rattle.picky_records.proofs.Exits.{exit}
use Rattle.picky_records.proofs.Turns.{no_form, no_standing, stands}
use Rattle.picky_records.proofs.read.line_of.Goals as goal

pub returns-in_err-line : goal.returns-in_err-line
returns-in_err-line c =
    exit (λ l. l) fault c.from_residual.result c.in_err-line.field-0.0 (row c.args.before.now c.args.text.now)
    (form_table (c.len.result + 1) (fields_in c.args.text.now)).refuses c.from_residual.ensures.1 c.in_err-line.ensures
    (no_form c.args.before.now c.args.text.now c.len.result c.len.ensures.is)

pub returns-in-Ok : goal.returns-in-Ok
returns-in-Ok c = stands c.args.before.now c.args.text.now c.len.result c.in_ok-line.line c.len.ensures.is c.in_ok-line.ensures c.in-Ok.ensures

pub returns-in-Err : goal.returns-in-Err
returns-in-Err c =
    up (fault c.in-Err.fault) (standing c.args.before.now (c.len.result + 1) c.in_ok-line.line).refuses (row c.args.before.now c.args.text.now).refuses
    (no_standing c.args.before.now c.args.text.now c.len.result c.in_ok-line.line c.len.ensures.is c.in_ok-line.ensures) c.in-Err.ensures
