-- Conversions with the calendar.
use Rattle.std.proofs.Common.{◌≡◌, ◌↔◌, inl, inr, ℕ, ℤ, pos, ◌<◌, ◌≤◌, refl, sym, subst, ◌∙◌, Option, Some, None, IsSome, IfSome, ◌≤ℤ◌, arith}
use Rattle.std.specs.Option.{ok_or}
use Rattle.std.proofs.lemmas.Int.{ints}
use Rattle.jiff.specs.Types.{DateTime}
use Rattle.picky_contract.specs.Refusals.{Meets}
use Rattle.jiff.specs.Words.{IsDate}
use Rattle.picky_asn1_date.specs.Civil.{Civil, civil_view, IsMomentOf, to_civil_table, from_civil_table}
use Rattle.picky_asn1_date.specs.Faults.{year_out_of_range, any_fault}
use Rattle.picky_asn1_date.specs.declared.error.DateError.TheVariants.{YearOutOfRange, NoSuchDate}
use Rattle.picky_asn1_date.specs.Moment.{Moment}
use Rattle.picky_asn1_date.proofs.Forms.{same_moment}

pub to_late : (m : Moment) → 9999 < m.year → (to_civil_table m).refuses year_out_of_range
unfolding to_civil_table
to_late m late = inl (refl, λ h. absurd (omega arith))

pub by_calendar : (m : Moment) (o : Option DateTime) → m.year ≤ 9999 → (IsSome o ↔ IsDate (pos m.year) (pos m.month) (pos m.day))
    → IfSome o (λ dt. dt.date.year ≡ pos m.year) → IfSome o (λ dt. dt.date.month ≡ m.month) → IfSome o (λ dt. dt.date.day ≡ m.day)
    → IfSome o (λ dt. (dt.time.hour ≡ m.hour) × (dt.time.minute ≡ m.minute) × (dt.time.second ≡ m.second) × (dt.time.subsec_nanosecond ≡ 0))
    → Meets civil_view any_fault (ok_or o NoSuchDate) (to_civil_table m)
unfolding to_civil_table
by_calendar m None h exactly year month day time = inr (tt, h, inl (refl, λ date. let some : IsSome {T = DateTime} None = exactly.1 date in absurd (cc)))
by_calendar m (Some dt) h exactly year month day time =
    (tt, h, (tt, exactly.0 refl, λ i. record { year = year i; month = month i; day = day i; hour = time.0 i; minute = time.1 i; second = time.2 i; nanosecond = time.3 i }))

same_pos : (a b : ℕ) → pos a ≡ pos b → a ≡ b
same_pos a b e = cc

from_some : (c : Civil) (m : Moment) → IsMomentOf c m → (from_civil_table c).gives m
unfolding from_civil_table
from_some c m h = (h, λ n k. same_moment n m (same_pos n.year m.year (sym k.year ∙ h.year)) (k.month ∙ sym h.month) (k.day ∙ sym h.day) (k.hour ∙ sym h.hour) (k.minute ∙ sym h.minute) (k.second ∙ sym h.second))

not_negative : (z : ℤ) (n : ℕ) → z ≡ pos n → pos 0 ≤ℤ z
not_negative z n e = subst (λ x. pos 0 ≤ℤ x) (sym e) (omega (arith, ints))

pub of_calendar : (c : Civil) (o : Option Moment) → (IsSome o ↔ (pos 0 ≤ℤ c.year)) → IfSome o (λ m. pos m.year ≡ c.year)
    → IfSome o (λ m. (m.month ≡ c.month) × (m.day ≡ c.day) × (m.hour ≡ c.hour) × (m.minute ≡ c.minute) × (m.second ≡ c.second)) → Meets (λ m. m) any_fault (ok_or o YearOutOfRange) (from_civil_table c)
unfolding from_civil_table
of_calendar c None exactly year rest = (refl, λ m h. let some : IsSome {T = Moment} None = exactly.1 (not_negative c.year m.year h.year) in absurd (cc))
of_calendar c (Some m) exactly year rest = from_some c m (record { year = sym year; month = rest.0; day = rest.1; hour = rest.2; minute = rest.3; second = rest.4 })
