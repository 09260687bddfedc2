use Rattle.std.proofs.Common.{Option, Some, None, subst}
use Rattle.picky_contract.specs.Refusals.{Meets, named}
use Rattle.picky_contract.specs.laws.Tables.{then_meets, step_refuses}
use Rattle.picky_http_request.specs.Heads.{Head, head_view}
use Rattle.picky_http.specs.Lines.{Request}
use Rattle.picky_gate.specs.declared.documents.Document.TheVariants as document
use Rattle.picky_gate.specs.Asked.{admit_of}
use Rattle.picky_gate.specs.Documents.{request_table, text_decision, request_decision}
use Rattle.picky_gate.specs.Faults.{why_of, flaw_of, bad}
use Rattle.picky_gate.specs.Refusals.{admission_of}
use Rattle.picky_gate.specs.Request.{asked_of}
use Rattle.picky_gate.proofs.Deciding.{answers_same}
use Rattle.picky_gate.proofs.documents.decide_from_request.Goals as goal

pub returns-in-Err : goal.returns-in-Err
unfolding request_decision
returns-in-Err c =
    step_refuses (bad document.Request) (request_table c.args.documents.now.request) (λ (head : Option Head). text_decision (admit_of c.args.words) c.args.provider.now.lines.items c.args.ring.now (asked_of head)) (flaw_of c.in-Err.fault) c.in-Err.ensures

pub returns-in-None : goal.returns-in-None
unfolding request_decision
returns-in-None c =
    let none = rw c.in-None.is at c.in-Ok.ensures in
    then_meets admission_of why_of c.decide_text.result (named (bad document.Request) (request_table c.args.documents.now.request)) (λ (head : Option Head). text_decision (admit_of c.args.words) c.args.provider.now.lines.items c.args.ring.now (asked_of head))
    None none c.decide_text.ensures

pub returns : goal.returns
unfolding request_decision
returns c =
    let some = rw c.in-Some.is at c.in-Ok.ensures in
    then_meets admission_of why_of c.decide_text-in-Some.result (named (bad document.Request) (request_table c.args.documents.now.request)) (λ (head : Option Head). text_decision (admit_of c.args.words) c.args.provider.now.lines.items c.args.ring.now (asked_of head))
    (Some (head_view c.in-Some.head)) some
    (subst (λ (q : Request). Meets admission_of why_of c.decide_text-in-Some.result (text_decision (admit_of c.args.words) c.args.provider.now.lines.items c.args.ring.now q)) (answers_same c.in-Some.head) c.decide_text-in-Some.ensures)
