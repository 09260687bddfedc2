use Rattle.std.proofs.Common.{arith, ◌∙◌}
use Rattle.std.proofs.lemmas.Result.{IfOk-weaker}
use Rattle.picky_base64.specs.laws.Encoding.{encode_of_lem}
use Rattle.picky_base64.proofs.encode.Goals as goal

pub returns : goal.returns
returns c =
    IfOk-weaker c.encode.result _ _ (λ s e. record {
      spelled = e ∙ encode_of_lem c.args.form c.engine.result c.args.bytes.now c.engine.ensures.symbols c.engine.ensures.padding c.engine.ensures.pads (λ i. omega (arith, c.type_inv.bytes i));
      fits = λ i. omega (arith, c.type_inv.bytes i);
    }) c.encode.ensures.text
