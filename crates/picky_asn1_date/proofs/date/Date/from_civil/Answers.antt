use Rattle.picky_asn1_date.specs.Civil.{civil_view}
use Rattle.picky_asn1_date.proofs.CivilDates.{of_calendar}
use Rattle.picky_asn1_date.proofs.date.Date.from_civil.Goals as goal

pub returns : goal.returns
returns g c = rw c.ok_or.ensures.value (of_calendar (civil_view c.args.dt) c.of_calendar.result c.of_calendar.ensures.exactly c.of_calendar.ensures.year c.of_calendar.ensures.rest)
