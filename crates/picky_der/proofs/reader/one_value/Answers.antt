use Rattle.std.proofs.Common.{List, ℕ, arith}
use Rattle.picky_der.specs.Reading.{raw_at}
use Rattle.picky_der.specs.Form.{IsOneValue}
use Rattle.picky_der.specs.laws.Lengths.{TailIsBytes-of}
use Rattle.picky_der.specs.laws.Steps.{IfOk-answers}
use Rattle.picky_der.specs.laws.Headers.{raw_takes}
use Rattle.picky_der.proofs.reader.one_value.Goals as goal

pub returns-clause-one : goal.returns-clause-one
returns-clause-one c =
    let bytes = c.args.bytes.now in
    IfOk-answers {Y = List ℕ × List ℕ} (λ x. (x.0.now, x.1.now)) (λ x. IsOneValue x.0) c.raw_value.result (raw_at bytes) c.raw_value.ensures.answers
    (λ x e. (raw_takes bytes x.0 x.1 (TailIsBytes-of bytes (λ i. omega (arith, c.type_inv.bytes i))) e).0)
