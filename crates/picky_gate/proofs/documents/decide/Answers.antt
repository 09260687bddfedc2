use Rattle.picky_contract.specs.Refusals.{named}
use Rattle.picky_contract.specs.laws.Tables.{then_meets, step_refuses}
use Rattle.picky_gate.specs.declared.documents.Document.TheVariants as document
use Rattle.picky_gate.specs.Asked.{admit_of}
use Rattle.picky_gate.specs.Documents.{records_table, keys_decision, decision}
use Rattle.picky_gate.specs.Faults.{why_of, flaw_of, bad}
use Rattle.picky_gate.specs.Refusals.{admission_of}
use Rattle.picky_gate.proofs.documents.decide.Goals as goal

pub returns-in-Err : goal.returns-in-Err
unfolding decision
returns-in-Err c = step_refuses (bad document.Records) (records_table c.args.documents.now.records) (keys_decision (admit_of c.args.words) c.args.documents.now) (flaw_of c.in-Err.fault) c.in-Err.ensures

pub returns : goal.returns
unfolding decision
returns c = then_meets admission_of why_of c.decide_from_keys.result (named (bad document.Records) (records_table c.args.documents.now.records)) (keys_decision (admit_of c.args.words) c.args.documents.now) c.in-Ok.provider.lines.items c.in-Ok.ensures c.decide_from_keys.ensures
