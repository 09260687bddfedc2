-- The contents octets of UTCTime and GeneralizedTime: the text of a date (X.690 sections 11.7 and 11.8; RFC 5280 section 4.1.2.5).
use Rattle.std.specs.Prelude.{◌≡◌, ℕ, ◌+◌, ◌-◌, ◌*◌, ◌&&◌, Bool, nat_eq, nat_lt, nat_le, if◌then◌else◌, List, slice_index, Result, Ok, Err}
use Rattle.std.specs.Cmp.Lexicographic.{pointwise}
use Rattle.std.specs.Int.{is_in_range}
use Rattle.picky_asn1_date.specs.Moment.{Moment, IsMoment}
use Rattle.picky_der.specs.declared.fault.DerError.{DerError}
use Rattle.picky_der.specs.declared.fault.DerError.TheVariants.{BadValue}
use Rattle.picky_der.specs.Primitive.{Contents}

-- ---- the octets of a form with these years and texts

-- whether the parts are in range
abbrev pub is_moment : Moment → Bool
is_moment m = is_in_range 1 12 m.month && (is_in_range 1 31 m.day && (nat_lt m.hour 24 && (nat_lt m.minute 60 && nat_lt m.second 60)))

-- whether the octets are the text of this date
abbrev pub is_time : (ℕ → Bool) → (Moment → List ℕ) → List ℕ → Moment → Bool
is_time is_year text octets m = is_year m.year && (is_moment m && pointwise nat_eq octets (text m))

-- the date whose text the octets are; `numbers` takes its numbers from their places
unfoldable pub time_of : (ℕ → Bool) → (Moment → List ℕ) → (List ℕ → Moment) → List ℕ → Result Moment DerError
time_of is_year text numbers octets = if is_time is_year text octets (numbers octets) then Ok (numbers octets) else Err BadValue

-- the text of a date in range, whose year the form has
abbrev pub time_contents : (ℕ → Type 0) → (ℕ → Bool) → (Moment → List ℕ) → (List ℕ → Moment) → Contents Moment
time_contents IsYear is_year text numbers = record {
  in_form = λ m. IsYear m.year × IsMoment m;
  Octets = λ octets m. octets ≡ text m;
  octets = text;
  decode = time_of is_year text numbers;
}

-- ---- the numbers at their places

-- the number of the two digits at a place
abbrev pub pair_at : List ℕ → ℕ → ℕ
pair_at octets place = 10 * (slice_index octets place - 48) + (slice_index octets (place + 1) - 48)

-- the year of two digits: 19YY from 50, 20YY below
abbrev pub utc_year : ℕ → ℕ
utc_year places = if nat_lt places 50 then 2000 + places else 1900 + places

-- YYMMDDHHMMSSZ
abbrev pub utc_numbers : List ℕ → Moment
utc_numbers octets = record {
  year = utc_year (pair_at octets 0);
  month = pair_at octets 2;
  day = pair_at octets 4;
  hour = pair_at octets 6;
  minute = pair_at octets 8;
  second = pair_at octets 10;
}

abbrev pub is_utc_year : ℕ → Bool
is_utc_year year = is_in_range 1950 2049 year

-- YYYYMMDDHHMMSSZ
abbrev pub generalized_numbers : List ℕ → Moment
generalized_numbers octets = record {
  year = 100 * pair_at octets 0 + pair_at octets 2;
  month = pair_at octets 4;
  day = pair_at octets 6;
  hour = pair_at octets 8;
  minute = pair_at octets 10;
  second = pair_at octets 12;
}

abbrev pub is_generalized_year : ℕ → Bool
is_generalized_year year = nat_le year 9999
