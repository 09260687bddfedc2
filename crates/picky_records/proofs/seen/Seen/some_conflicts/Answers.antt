use Rattle.std.proofs.Common.{◌≡◌, Some, None, sym, ◌∙◌, rules}
use Rattle.std.specs.BTreeMap.{get}
use Rattle.std.specs.Ordering.{nat_cmp}
use Rattle.std.specs.Cmp.Lexicographic.{slice_cmp}
use Rattle.picky_records.specs.Questions.{KnowsLines, question_of}
use Rattle.picky_records.proofs.Places.{not_asked, not_found}
use Rattle.picky_records.proofs.seen.Seen.some_conflicts.Goals as goal

pub returns-in_default : goal.returns-in_default
returns-in_default c = sym (not_asked c.args.self.now c.args.line.now (sym c.in_ok-question.ensures ∙ c.in_default.is))

pub returns : goal.returns
returns c =
    let asked : question_of c.args.line.now ≡ Some c.in-Some.question = sym c.in_ok-question.ensures ∙ c.in-Some.is in
    let none : get (slice_cmp nat_cmp) c.self.inside.places c.in-Some.question ≡ None = search rules in
    let knows : KnowsLines c.self.inside.places c.args.self.now = search rules in
    sym (not_found c.self.inside.places c.args.self.now c.args.line.now c.in-Some.question knows asked none)
