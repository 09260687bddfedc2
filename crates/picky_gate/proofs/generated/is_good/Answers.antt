use Rattle.std.proofs.Common.{◌∙◌}
use Rattle.picky_gate.proofs.Generating.{good_of}
use Rattle.picky_gate.proofs.generated.is_good.Goals as goal

pub returns : goal.returns
returns c =
    good_of c.args.word c.args.number c.deref-2.result.now c.deref.result.now c.is_admitted_with.result (c.deref-2.ensures ∙ c.in_ok-record.ensures) (c.deref.ensures ∙ c.in_ok-text.ensures) c.is_admitted_with.ensures
