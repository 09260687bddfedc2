-- The contents octets of a form of dates are decoded.
use Rattle.std.proofs.Common.{◌≡◌, ◌≢◌, ℕ, ◌+◌, ◌-◌, ◌*◌, ◌/◌, ◌%◌, Bool, true, false, cond, List, Ok, Err, refl, sym, ap, subst, ◌∙◌, inl, inr, arith}
use Rattle.std.specs.Prelude.{◌&&◌, nat_eq, nat_lt, nat_le}
use Rattle.std.specs.Bool.{Decides}
use Rattle.std.specs.Cmp.Lexicographic.{pointwise, bytes_decides}
use Rattle.std.specs.Int.{is_in_range, IsInRange}
use Rattle.std.proofs.lemmas.Bool.{cases_lt, leb-true, le-leb, lt-ltb, le-ltb}
use Rattle.std.proofs.lemmas.Bool.Decides.{Decides-ltb, Decides-and}
use Rattle.picky_asn1_tag.specs.declared.tag.Tag.{Tag}
use Rattle.picky_asn1_date.specs.Moment.{Moment, IsMoment}
use Rattle.picky_asn1_date.specs.DateText.{utc_text, IsUtcYear, generalized_text, IsGeneralizedYear}
use Rattle.picky_der.specs.declared.fault.DerError.TheVariants.{BadValue}
use Rattle.picky_der.specs.Form.{Readable, Writable, Tagged}
use Rattle.picky_der.specs.Primitive.{Decodes, primitive_form}
use Rattle.picky_der.specs.laws.Steps.{need_ok, ok_is}
use Rattle.picky_der.specs.laws.Primitives.{primitive_readable, primitive_writable, primitive_tagged}
use Rattle.picky_asn1_time.specs.Times.{is_moment, is_time, time_of, time_contents, utc_numbers, is_utc_year, generalized_numbers, is_generalized_year}

-- ---- what the tests decide

range_decides : (low high c : ℕ) → Decides (is_in_range low high c) (IsInRange low high c)
range_decides low high c = Decides-and (nat_le low c) (nat_le c high) (leb-true low c, le-leb low c) (leb-true c high, le-leb c high)

moment_decides : (m : Moment) → Decides (is_moment m) (IsMoment m)
moment_decides m =
    let minutes = Decides-and (nat_lt m.minute 60) (nat_lt m.second 60) (Decides-ltb m.minute 60) (Decides-ltb m.second 60) in
    let hours = Decides-and (nat_lt m.hour 24) (nat_lt m.minute 60 && nat_lt m.second 60) (Decides-ltb m.hour 24) minutes in
    let days = Decides-and (is_in_range 1 31 m.day) (nat_lt m.hour 24 && (nat_lt m.minute 60 && nat_lt m.second 60)) (range_decides 1 31 m.day) hours in
    let months = Decides-and (is_in_range 1 12 m.month) (is_in_range 1 31 m.day && (nat_lt m.hour 24 && (nat_lt m.minute 60 && nat_lt m.second 60))) (range_decides 1 12 m.month) days in (
      λ t. let h = months.0 t in record { month = h.0; day = h.1.0; hour = h.1.1.0; minute = h.1.1.1.0; second = h.1.1.1.1 },
      λ h. months.1 (h.month, (h.day, (h.hour, (h.minute, h.second)))),
    )

module _ (IsYear : ℕ → Type 0) (is_year : ℕ → Bool) (text : Moment → List ℕ) (numbers : List ℕ → Moment) (decides : (year : ℕ) → Decides (is_year year) (IsYear year)) where
  pub time_decides : (octets : List ℕ) (m : Moment) → Decides (is_time is_year text octets m) (IsYear m.year × (IsMoment m × (octets ≡ text m)))
  time_decides octets m =
      Decides-and (is_year m.year) (is_moment m && pointwise nat_eq octets (text m)) (decides m.year)
      (Decides-and (is_moment m) (pointwise nat_eq octets (text m)) (moment_decides m) (bytes_decides octets (text m)))

  pub time_takes : (octets : List ℕ) (m : Moment) → time_of is_year text numbers octets ≡ Ok m → (IsYear m.year × IsMoment m) × (octets ≡ text m)
  unfolding time_of
  time_takes octets m e =
      let a = need_ok (is_time is_year text octets (numbers octets)) BadValue (Ok (numbers octets)) m e in
      let same : numbers octets ≡ m = ok_is (numbers octets) m a.1 in
      let h = (time_decides octets (numbers octets)).0 a.0 in
      subst (λ (n : Moment). (IsYear n.year × IsMoment n) × (octets ≡ text n)) same ((h.0, h.1.0), h.1.1)

  -- octets that are the text of no such date
  pub time_bad : (octets : List ℕ) → ((m : Moment) → IsYear m.year × (IsMoment m × (octets ≡ text m)) → ⊥) → time_of is_year text numbers octets ≡ Err BadValue
  unfolding time_of
  time_bad octets none = elim (is_time is_year text octets (numbers octets)) as (λ b. is_time is_year text octets (numbers octets) ≡ b → cond b (Ok (numbers octets)) (Err BadValue) ≡ Err BadValue) [
    | true ↦ λ e. absurd (none (numbers octets) ((time_decides octets (numbers octets)).0 e))
    | false ↦ λ e. refl
  ] refl

  module _ (reads : (m : Moment) → IsYear m.year → IsMoment m → numbers (text m) ≡ m) where
    pub time_again : (octets : List ℕ) (m : Moment) → IsYear m.year × IsMoment m → octets ≡ text m → time_of is_year text numbers octets ≡ Ok m
    unfolding time_of
    time_again octets m h e =
        let same : numbers octets ≡ m = ap numbers e ∙ reads m h.0 h.1 in
        rw (same, (time_decides octets m).1 (h.0, (h.1, e))) refl

    time_decodes : Decodes (time_contents IsYear is_year text numbers)
    time_decodes = record {
      takes = λ octets m _ e. time_takes octets m e;
      again = time_again;
      has_octets = λ _ _. refl;
      one = λ s t m _ p q. p ∙ sym q;
    }

    pub time_readable : (tag : Tag) → Readable (primitive_form tag (time_contents IsYear is_year text numbers))
    time_readable tag = primitive_readable tag (time_contents IsYear is_year text numbers) time_decodes

    pub time_writable : (tag : Tag) → tag.0 % 32 ≢ 31 → Writable (primitive_form tag (time_contents IsYear is_year text numbers))
    time_writable tag one_byte = primitive_writable tag (time_contents IsYear is_year text numbers) time_decodes one_byte

pub time_tagged : (tag : Tag) (IsYear : ℕ → Type 0) (is_year : ℕ → Bool) (text : Moment → List ℕ) (numbers : List ℕ → Moment) → Tagged tag (primitive_form tag (time_contents IsYear is_year text numbers))
time_tagged tag IsYear is_year text numbers = primitive_tagged tag (time_contents IsYear is_year text numbers)

-- ---- the two forms

pub utc_decides : (year : ℕ) → Decides (is_utc_year year) (IsUtcYear year)
utc_decides year = range_decides 1950 2049 year

pub generalized_decides : (year : ℕ) → Decides (is_generalized_year year) (IsGeneralizedYear year)
generalized_decides year = (leb-true year 9999, le-leb year 9999)

same_moment : (m n : Moment) → m.year ≡ n.year → m.month ≡ n.month → m.day ≡ n.day → m.hour ≡ n.hour → m.minute ≡ n.minute → m.second ≡ n.second → m ≡ n
same_moment m n year month day hour minute second = λ i. record { year = year i; month = month i; day = day i; hour = hour i; minute = minute i; second = second i }

-- a number is that of its digits
pair_again : (n : ℕ) → 10 * (48 + n / 10 - 48) + (48 + n % 10 - 48) ≡ n
pair_again n = omega arith

utc_year_again : (year : ℕ) → IsUtcYear year → cond (nat_lt (year % 100) 50) (2000 + year % 100) (1900 + year % 100) ≡ year
utc_year_again year h = elim (cases_lt (year % 100) 50) [
  | inl low ↦ rw (lt-ltb (year % 100) 50 low) (omega arith)
  | inr high ↦ rw (le-ltb (year % 100) 50 high) (omega arith)
]

pub utc_reads : (m : Moment) → IsUtcYear m.year → IsMoment m → utc_numbers (utc_text m) ≡ m
utc_reads m h _ =
    same_moment (utc_numbers (utc_text m)) m (ap (λ n. cond (nat_lt n 50) (2000 + n) (1900 + n)) (pair_again (m.year % 100)) ∙ utc_year_again m.year h)
    (pair_again m.month) (pair_again m.day) (pair_again m.hour) (pair_again m.minute) (pair_again m.second)

century_again : (year : ℕ) {high low : ℕ} → high ≡ year / 100 → low ≡ year % 100 → 100 * high + low ≡ year
century_again year p q = omega arith

pub generalized_reads : (m : Moment) → IsGeneralizedYear m.year → IsMoment m → generalized_numbers (generalized_text m) ≡ m
generalized_reads m _ _ =
    same_moment (generalized_numbers (generalized_text m)) m (century_again m.year (pair_again (m.year / 100)) (pair_again (m.year % 100)))
    (pair_again m.month) (pair_again m.day) (pair_again m.hour) (pair_again m.minute) (pair_again m.second)
