use Rattle.std.proofs.Common.{refl, sym, subst, ◌∙◌, rules}
use Rattle.picky_records.specs.Lines.{AreSound}
use Rattle.picky_records.specs.Reading.{fault, records_table, row}
use Rattle.picky_records.proofs.Exits.{exit}
use Rattle.picky_records.specs.laws.Exact.{row_exact}
use Rattle.picky_records.specs.laws.Records.{sound_next}
use Rattle.picky_records.proofs.Documents.{reads_first, reads_on, reads_no_further, reads_all, reads_too_far, is_nothing, is_something}
use Rattle.picky_records.proofs.read.lines_of.Goals as goal

pub loop-line-init : goal.loop-line-init
loop-line-init c = (c.utf8.text, (subst (λ x. AreSound x) (sym c.new-seen.ensures) refl, reads_first c.args.text.now c.new-seen.result c.new-seen.ensures))

pub returns-in_err-line : goal.returns-in_err-line
returns-in_err-line c =
    exit (λ v. v.items) fault c.from_residual.result c.in_err-line.field-0.0 (records_table c.args.text.now) (row c.loop-line.seen c.in-Some.line.now).refuses
    c.from_residual.ensures.1 c.in_err-line.ensures
    (reads_no_further c.loop-line.seen c.loop-line.rest.now c.in-Some.line.now c.in-Some.after.now c.args.text.now c.in-Some.ensures.found c.loop-line.invariant.1.1)

pub loop-line-preserved : goal.loop-line-preserved
loop-line-preserved c = (
  search rules,
  (
    sound_next c.loop-line.seen c.in_ok-seen.seen c.in-Some.line.now c.in_ok-line.line c.loop-line.invariant.1.0
        ((row_exact c.loop-line.seen c.in-Some.line.now).holds c.in_ok-line.line c.in_ok-line.ensures) c.in_ok-seen.ensures,
    reads_on c.loop-line.seen c.in_ok-seen.seen c.loop-line.rest.now c.in-Some.line.now c.in-Some.after.now c.args.text.now c.in_ok-line.line
        c.in-Some.ensures.found c.in_ok-line.ensures c.in_ok-seen.ensures c.loop-line.invariant.1.1,
  ),
)

pub returns-then-not-is_empty : goal.returns-then-not-is_empty
returns-then-not-is_empty c =
    rw c.len.ensures.is (reads_too_far c.loop-line.seen c.loop-line.rest.now c.args.text.now c.in_default.ensures.every
    (is_something c.loop-line.rest.now (sym c.is_empty.ensures ∙ c.if-not-is_empty.true)) c.loop-line.invariant.1.1)

pub returns : goal.returns
returns c = subst (λ x. (records_table c.args.text.now).gives x) (sym c.into_lines.ensures) (reads_all c.loop-line.seen c.loop-line.rest.now c.args.text.now c.in_default.ensures.every
    (is_nothing c.loop-line.rest.now (sym c.is_empty.ensures ∙ c.if-not-is_empty.false)) c.loop-line.invariant.1.1)
