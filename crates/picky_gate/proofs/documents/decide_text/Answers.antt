use Rattle.picky_contract.specs.laws.Tables.{named_refuses}
use Rattle.picky_records.specs.Meanings.{signs_by}
use Rattle.std.proofs.Common.{IfSome, subst}
use Rattle.picky_gate.specs.Faults.{refused}
use Rattle.picky_gate.specs.declared.policy.Policy.{Policy}
use Rattle.picky_gate.specs.Asked.{admit_of}
use Rattle.picky_gate.specs.Moment.{policy_of}
use Rattle.picky_http.specs.Lines.{request_of}
use Rattle.picky_gate.specs.Refusals.{admission_of, cause_of, admits_table}
use Rattle.picky_gate.proofs.documents.decide_text.Goals as goal

pub returns-in-Err : goal.returns-in-Err
returns-in-Err g c =
    let asked = request_of g.Q.HttpRequest.answer g.Q.HttpRequest.method g.Q.HttpRequest.target c.args.request.now in
    let table = λ (p : Policy). admits_table (signs_by c.args.provider.now.lines.items) c.args.ring.now p asked c.args.words.text.now in
    let due = subst (λ (p : Policy). IfSome (cause_of c.in-Err.refusal) (table p).refuses) c.policy.ensures c.in-Err.ensures.first in
    named_refuses refused (table (policy_of (admit_of c.args.words))) (cause_of c.in-Err.refusal) due

pub returns-in-Ok : goal.returns-in-Ok
returns-in-Ok g c =
    let asked = request_of g.Q.HttpRequest.answer g.Q.HttpRequest.method g.Q.HttpRequest.target c.args.request.now in
    let table = λ (p : Policy). admits_table (signs_by c.args.provider.now.lines.items) c.args.ring.now p asked c.args.words.text.now in
    subst (λ (p : Policy). (table p).gives (admission_of c.in-Ok.admitted)) c.policy.ensures c.in-Ok.ensures.first
