-- What reading and writing the text of a date answers, over the years and the texts of a form (own).
use Rattle.std.specs.Prelude.{◌≡◌, ℕ, ◌<◌, List}
use Rattle.picky_contract.specs.Refusals.{Table, the, need, done, ◌>>=◌}
use Rattle.picky_asn1_date.specs.Faults.{Fault, year_out_of_range, bad_date_text, no_such_date}
use Rattle.picky_asn1_date.specs.Moment.{Moment, IsMoment}

-- The bytes are the digits of these numbers, each in its places, and Z. The numbers may be out of range for a date.
pub record IsSpelled (IsYear : ℕ → Type 0) (text_of : Moment → List ℕ) (bytes : List ℕ) (m : Moment) : Type 0 where
  pub year : IsYear m.year
  pub month : m.month < 100
  pub day : m.day < 100
  pub hour : m.hour < 100
  pub minute : m.minute < 100
  pub second : m.second < 100
  pub text : bytes ≡ text_of m

-- the bytes are the text of this date
pub record DateReading (IsYear : ℕ → Type 0) (text_of : Moment → List ℕ) (bytes : List ℕ) (m : Moment) : Type 0 where
  pub year : IsYear m.year
  pub moment : IsMoment m
  pub text : bytes ≡ text_of m

-- reading: the text is digits and Z of the form, and its numbers are in range
unfoldable pub reading_table : (ℕ → Type 0) → (Moment → List ℕ) → List ℕ → Table Moment Fault
reading_table IsYear text bytes = do
  m ← the (IsSpelled IsYear text bytes) bad_date_text
  in_range ← need (IsMoment m) no_such_date
  done m

-- writing: the form has the year
unfoldable pub writing_table : (ℕ → Type 0) → (Moment → List ℕ) → Moment → Table (List ℕ) Fault
writing_table IsYear text m = do
  in_years ← need (IsYear m.year) year_out_of_range
  done (text m)
