use Rattle.picky_contract.specs.laws.Tables.{complete, err_meets}
use Rattle.picky_records.specs.Reading.{fault, records_table}
use Rattle.picky_records.specs.laws.Exact.{records_exact}
use Rattle.picky_records.specs.laws.Records.{records_are, records_hold, are_sound_records}
use Rattle.picky_records.specs.laws.AnswersBy.{answers_by}
use Rattle.picky_records.proofs.recorded.Recorded.read.Goals as goal

pub invariant_of-result : goal.invariant_of-result
invariant_of-result c =
    let are = records_are c.args.text.now c.in_ok-lines.lines.items ((records_exact c.args.text.now).holds c.in_ok-lines.lines.items c.in_ok-lines.ensures) in
    record { sound = are_sound_records c.args.text.now c.in_ok-lines.lines.items are }

pub returns : goal.returns
returns c =
    let are = records_are c.args.text.now c.in_ok-lines.lines.items ((records_exact c.args.text.now).holds c.in_ok-lines.lines.items c.in_ok-lines.ensures) in
    record {
      found = record {
        lines = c.in_ok-lines.lines.items;
        are = are;
        answers = answers_by c.in_ok-lines.lines.items (are_sound_records c.args.text.now c.in_ok-lines.lines.items are);
      };
      every = λ ls h. (records_exact c.args.text.now).one c.in_ok-lines.lines.items ls c.in_ok-lines.ensures (records_hold c.args.text.now ls h);
      first = c.in_ok-lines.ensures;
    }

pub returns-in_err-lines-clause-every : goal.returns-in_err-lines-clause-every
returns-in_err-lines-clause-every c = λ ls h.
    complete (λ r. r.lines.items) fault c.from_residual.result (records_table c.args.text.now) (records_exact c.args.text.now)
    (err_meets (λ r. r.lines.items) fault c.from_residual.result c.in_err-lines.field-0.0 (records_table c.args.text.now) c.from_residual.ensures.1 c.in_err-lines.ensures)
    ls (records_hold c.args.text.now ls h)
