use Rattle.picky_contract.specs.Refusals.{named}
use Rattle.picky_contract.specs.laws.Tables.{then_meets, step_refuses}
use Rattle.picky_gate.specs.declared.documents.Document.TheVariants as document
use Rattle.picky_gate.specs.Asked.{admit_of}
use Rattle.picky_gate.specs.Documents.{keys_table, request_decision, keys_decision}
use Rattle.picky_gate.specs.Faults.{why_of, flaw_of, bad}
use Rattle.picky_gate.specs.Refusals.{admission_of}
use Rattle.picky_gate.proofs.documents.decide_from_keys.Goals as goal

pub returns-in-Err : goal.returns-in-Err
unfolding keys_decision
returns-in-Err c = step_refuses (bad document.Keys) (keys_table c.args.documents.now.keys) (request_decision (admit_of c.args.words) c.args.documents.now c.args.provider.now.lines.items) (flaw_of c.in-Err.fault) c.in-Err.ensures

pub returns : goal.returns
unfolding keys_decision
returns c = then_meets admission_of why_of c.decide_from_request.result (named (bad document.Keys) (keys_table c.args.documents.now.keys)) (request_decision (admit_of c.args.words) c.args.documents.now c.args.provider.now.lines.items) c.in-Ok.ring c.in-Ok.ensures c.decide_from_request.ensures
