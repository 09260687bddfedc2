use Rattle.std.proofs.Common.{◌∙◌}
use Rattle.picky_base64.specs.laws.Encoding.{encode_of_lem, refused, only}
use Rattle.picky_base64.proofs.decode.Goals as goal

pub returns-in-Ok : goal.returns-in-Ok
returns-in-Ok c = rw (← c.as_bytes.ensures.value) (
  record {
    spelled = c.in-Ok.ensures.exact c.engine.ensures.strict ∙ encode_of_lem c.args.form c.engine.result c.in-Ok.bytes.items c.engine.ensures.symbols c.engine.ensures.padding c.engine.ensures.pads c.in-Ok.ensures.bytes;
    fits = c.in-Ok.ensures.bytes;
  },
  only c.args.form c.engine.result c.as_bytes.result.now c.in-Ok.bytes.items c.engine.ensures.symbols c.engine.ensures.padding c.engine.ensures.pads (c.decode.ensures.strict c.engine.ensures.strict) c.in-Ok.ensures.ok,
)

pub returns-in-Err-DecodeError : goal.returns-in-Err-DecodeError
returns-in-Err-DecodeError c =
    rw (← c.as_bytes.ensures.value) (refused c.args.form c.engine.result c.as_bytes.result.now c.in-Err-DecodeError.field-0-0 c.engine.ensures.symbols c.engine.ensures.padding c.engine.ensures.pads
    (c.decode.ensures.strict c.engine.ensures.strict) (rw c.in-Err-DecodeError.field-0-is at c.in-Err-DecodeError.ensures.err))
