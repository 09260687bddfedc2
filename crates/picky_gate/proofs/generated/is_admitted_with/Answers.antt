use Rattle.std.proofs.lemmas.Result.{IfOk-weaker}
use Rattle.picky_gate.proofs.Generating.{good_text, bad_record}
use Rattle.picky_gate.proofs.generated.is_admitted_with.Goals as goal

pub returns-in-Ok : goal.returns-in-Ok
returns-in-Ok c =
    IfOk-weaker c.is_admitted.result _ _ (λ holds told. good_text c.args.document.now c.args.text.now c.args.ring.now c.in-Ok.records.lines.items holds c.requires c.in-Ok.ensures.first told) c.is_admitted.ensures

pub returns-in-Err : goal.returns-in-Err
returns-in-Err c =
    IfOk-weaker c.not_read.result _ _ (λ holds isnt. bad_record c.args.document.now c.args.text.now c.in-Err.fault holds isnt c.in-Err.ensures.first) c.not_read.ensures
