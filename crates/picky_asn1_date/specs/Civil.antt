-- Dates of the proleptic Gregorian calendar, as `jiff` has them (ISO 8601).
use Rattle.std.specs.Prelude.{◌≡◌, ℕ, ℤ, pos, ◌≤◌}
use Rattle.picky_contract.specs.Refusals.{Table, the, need, done, ◌>>=◌}
use Rattle.jiff.specs.Types.{DateTime}
use Rattle.jiff.specs.Words.{IsDate}
use Rattle.picky_asn1_date.specs.Faults.{Fault, year_out_of_range, no_such_date}
use Rattle.picky_asn1_date.specs.Moment.{Moment}

-- the parts of a date of the calendar and of its time of day
pub record Civil : Type 0 where
  pub year : ℤ
  pub month : ℕ
  pub day : ℕ
  pub hour : ℕ
  pub minute : ℕ
  pub second : ℕ
  pub nanosecond : ℕ

abbrev pub civil_view : DateTime → Civil
civil_view dt = record {
  year = dt.date.year;
  month = dt.date.month;
  day = dt.date.day;
  hour = dt.time.hour;
  minute = dt.time.minute;
  second = dt.time.second;
  nanosecond = dt.time.subsec_nanosecond;
}

-- the same six numbers, at the full second
abbrev pub civil_of : Moment → Civil
civil_of m = record {
  year = pos m.year;
  month = m.month;
  day = m.day;
  hour = m.hour;
  minute = m.minute;
  second = m.second;
  nanosecond = 0;
}

-- the six numbers are these parts, and parts of a second are dropped
pub record IsMomentOf (c : Civil) (m : Moment) : Type 0 where
  pub year : c.year ≡ pos m.year
  pub month : m.month ≡ c.month
  pub day : m.day ≡ c.day
  pub hour : m.hour ≡ c.hour
  pub minute : m.minute ≡ c.minute
  pub second : m.second ≡ c.second

-- to the calendar: the year is at most 9999, and the month has the day
unfoldable pub to_civil_table : Moment → Table Civil Fault
to_civil_table m = do
  in_years ← need (m.year ≤ 9999) year_out_of_range
  in_month ← need (IsDate (pos m.year) (pos m.month) (pos m.day)) no_such_date
  done (civil_of m)

-- from the calendar: the year isn't negative
unfoldable pub from_civil_table : Civil → Table Moment Fault
from_civil_table c = the (IsMomentOf c) year_out_of_range
