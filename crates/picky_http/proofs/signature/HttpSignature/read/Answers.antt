use Rattle.picky_http.specs.Reading.{shown_of, reading_of}
use Rattle.picky_http.specs.Refusals.{reading_table}
use Rattle.picky_http.specs.laws.Readings.{parts_same}
use Rattle.picky_http.proofs.signature.HttpSignature.read.Goals as goal

pub returns-in_ok-signature-in-Ok : goal.returns-in_ok-signature-in-Ok
unfolding reading_table
returns-in_ok-signature-in-Ok c =
    let shown = shown_of c.in-Ok.view in
    let r = reading_of c.in_ok-signature-in-Ok.signature in
    let cut = c.in_ok-signature-in-Ok.ensures in
    (shown, c.in-Ok.ensures, (r.headers, (cut.parts, λ ps h. parts_same shown.headers ps r.headers h cut.parts), cut.is))
