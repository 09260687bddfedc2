use Rattle.picky_asn1_time.specs.laws.Times.{time_again, time_bad}
use Rattle.picky_asn1_time.proofs.time.date_from.Goals as goal

pub returns-in-Ok-clause-answers : goal.returns-in-Ok-clause-answers
returns-in-Ok-clause-answers g c =
    let form = g.TR.TimeRepr in
    let test = g.TR.DecidedTime in
    let law = g.met.TR.DecidedTime in
    let found = c.in-Ok.ensures.found in
    time_again form.IsYear test.is_year form.text test.numbers law.decides law.reads c.args.octets.now c.in-Ok.date (found.year, found.moment) found.text

pub returns-in-Err-clause-answers : goal.returns-in-Err-clause-answers
returns-in-Err-clause-answers g c =
    let form = g.TR.TimeRepr in
    let test = g.TR.DecidedTime in
    let law = g.met.TR.DecidedTime in
    time_bad form.IsYear test.is_year form.text test.numbers law.decides c.args.octets.now (λ m h. absurd (cc (c.in-Err.ensures.every m (record { year = h.0; moment = h.1.0; text = h.1.1 }))))
