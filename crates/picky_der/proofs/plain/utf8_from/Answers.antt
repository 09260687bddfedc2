use Rattle.picky_der.specs.laws.Plain.{utf8_ok, utf8_bad}
use Rattle.picky_der.proofs.plain.utf8_from.Goals as goal

pub returns-in-Ok : goal.returns-in-Ok
returns-in-Ok c = let e = c.in-Ok.ensures.cases in utf8_ok c.args.octets.now c.in-Ok.text.now e.0 e.1

pub returns-in-Err : goal.returns-in-Err
returns-in-Err c = utf8_bad c.args.octets.now c.in-Err.ensures.cases.0
