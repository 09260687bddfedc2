-- A date with a time of day, as six numbers (X.680, clauses 46 and 47).
use Rattle.std.specs.Prelude.{ℕ, ◌<◌}
use Rattle.std.specs.Int.{IsInRange}

pub record Moment : Type 0 where
  pub year : ℕ
  pub month : ℕ
  pub day : ℕ
  pub hour : ℕ
  pub minute : ℕ
  pub second : ℕ

-- the parts are in range; the day may still not be in its month
pub record IsMoment (m : Moment) : Type 0 where
  pub month : IsInRange 1 12 m.month
  pub day : IsInRange 1 31 m.day
  pub hour : m.hour < 24
  pub minute : m.minute < 60
  pub second : m.second < 60
