use Rattle.std.proofs.Common.{None}
use Rattle.std.proofs.lemmas.Result.{IfOk-weaker}
use Rattle.picky_records.specs.Meanings.{signs_by}
use Rattle.picky_gate.specs.Request.{asked_of}
use Rattle.picky_gate.proofs.Generating.{refused_text}
use Rattle.picky_gate.proofs.generated.is_admitted.Goals as goal

pub returns : goal.returns
returns c =
    IfOk-weaker c.not_admitted.result _ _ (λ holds isnt. refused_text (signs_by c.args.records.now.lines.items) c.args.ring.now (asked_of None) c.args.text.now c.policy_at_zero.result c.policy_at_zero.ensures c.in-Err.refusal holds isnt c.in-Err.ensures.every) c.not_admitted.ensures
