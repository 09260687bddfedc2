use Rattle.std.proofs.Common.{refl, string_bytes}
use Rattle.std.proofs.lemmas.Result.{IfOk-weaker}
use Rattle.picky_gate.specs.Asked.{admit_of}
use Rattle.picky_gate.specs.Faults.{why_of}
use Rattle.picky_gate.specs.Refusals.{admission_of}
use Rattle.picky_gate.specs.Reply.{admitted}
use Rattle.picky_gate.proofs.Deciding.{printable}
use Rattle.picky_gate.proofs.Delivery.{said_fault}
use Rattle.picky_gate.proofs.program.answer.Goals as goal

pub admitted_lines-requires : goal.admitted_lines-requires
admitted_lines-requires c = printable (admit_of c.args.words) c.args.documents.now (admission_of c.in-Ok.admitted) c.in-Ok.ensures

pub returns-in_ok-text-in-Ok : goal.returns-in_ok-text-in-Ok
returns-in_ok-text-in-Ok c = record { reply = admitted (admission_of c.in-Ok.admitted); is = c.in-Ok.ensures; status = refl; text = c.in_ok-text-in-Ok.ensures }

pub returns-in-Err : goal.returns-in-Err
returns-in-Err c =
    IfOk-weaker c.fault_line.result _ _ (λ r says. said_fault (admit_of c.args.words) c.args.documents.now (why_of c.in-Err.fault) r.0 (string_bytes r.1) c.in-Err.ensures says) c.fault_line.ensures
