use Rattle.std.proofs.Common.{arith}
use Rattle.picky_asn1_date.proofs.CivilDates.{to_late, by_calendar}
use Rattle.picky_asn1_date.proofs.date.Date.to_civil.Goals as goal

pub returns-then-year-gt9999 : goal.returns-then-year-gt9999
returns-then-year-gt9999 g c = to_late c.args.self.now (omega arith)

pub returns : goal.returns
returns g c = rw c.ok_or.ensures.value (by_calendar c.args.self.now c.on_calendar.result (omega arith) c.on_calendar.ensures.exactly c.on_calendar.ensures.year c.on_calendar.ensures.month c.on_calendar.ensures.day c.on_calendar.ensures.time)
