-- Why the program has no admitted text: a document that is no grammar's, or a refusal (own).
use Rattle.std.specs.Prelude.{Option, Some, None, option_map}
use Rattle.picky_records.specs.Reading as records
use Rattle.picky_records.specs.declared.error.RecordFault.{RecordFault}
use Rattle.picky_ring.specs.Refusals.{KeysRefusal, keys_fault}
use Rattle.picky_http_request.specs.Heads as heads
use Rattle.picky_gate.specs.declared.documents.Document.{Document}
use Rattle.picky_gate.specs.declared.documents.DocumentFault.{DocumentFault}
use Rattle.picky_gate.specs.declared.documents.DocumentFault.TheVariants as of_document
use Rattle.picky_gate.specs.declared.documents.Fault.{Fault}
use Rattle.picky_gate.specs.declared.documents.Fault.TheVariants as fault
use Rattle.picky_gate.specs.Refusals.{Cause, cause_of}

-- what is wrong with a document
pub data Flaw : Type 0 where
  too_long : Flaw
  not_utf8 : Flaw
  of_keys : KeysRefusal → Flaw
  of_records : RecordFault → Flaw
  bad_head : Flaw

abbrev pub flaw_of : DocumentFault → Option Flaw
flaw_of of_document.TooLong = Some too_long
flaw_of of_document.Utf8 = Some not_utf8
flaw_of (of_document.Keys fault) = option_map of_keys (keys_fault fault)
flaw_of (of_document.Records error) = option_map of_records (records.fault error)
flaw_of (of_document.Head error) = option_map (λ _. bad_head) (heads.head_fault error)
flaw_of of_document.OutOfMemory = None

-- why there is no admitted text
pub data Why : Type 0 where
  bad : Document → Flaw → Why
  refused : Cause → Why

abbrev pub why_of : Fault → Option Why
why_of (fault.Bad document flaw) = option_map (bad document) (flaw_of flaw)
why_of (fault.Refused refusal) = option_map refused (cause_of refusal)
