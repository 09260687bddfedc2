use Rattle.std.proofs.Common.{arith}
use Rattle.picky_der.specs.Reading.{end_at}
use Rattle.picky_der.specs.Form.{IsOneValue}
use Rattle.picky_der.specs.laws.Lengths.{TailIsBytes-of}
use Rattle.picky_der.specs.laws.Steps.{OnOk-answers}
use Rattle.picky_der.specs.laws.Raw.{raw_alone_is}
use Rattle.picky_der.proofs.raw.look_at.Goals as goal

pub returns-clause-one : goal.returns-clause-one
returns-clause-one c =
    let bytes = c.args.bytes.now in
    let rest = c.read_raw.new.self.left in
    let e = rw c.new-reader.ensures at c.in_ok-read_raw.ensures.reads.0 in
    OnOk-answers (IsOneValue bytes) c.end.result (end_at rest) c.end.ensures.answers
    (λ u n. raw_alone_is bytes c.in_ok-read_raw.field-0.now rest u (TailIsBytes-of bytes (λ i. omega (arith, c.type_inv.bytes i))) e n)
