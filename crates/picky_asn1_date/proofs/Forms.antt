-- What the calls of a form answer.
use Rattle.std.proofs.Common.{◌≡◌, ◌≢◌, ◌↔◌, inl, inr, ℕ, ◌+◌, ◌*◌, ◌/◌, ◌%◌, ◌<◌, ◌≤◌, List, [], ◌∷◌, length, get_or, refl, sym, ap, subst, ◌∙◌, All, Option, Some, None, Result, Ok, Err, IsSome, IfSome, IfOk, arith}
use Rattle.std.specs.Option.{ok_or}
use Rattle.std.proofs.lemmas.List.Elements.{All-nil, All-cons}
use Rattle.picky_contract.specs.Refusals.{Meets, OkOrMemory, the, need}
use Rattle.picky_contract.specs.laws.Tables.{Exact, the_exact, need_exact, done_exact, then_exact, found, complete}
use Rattle.picky_asn1_date.specs.Moment.{Moment, IsMoment}
use Rattle.picky_asn1_date.specs.DateText.{digits_and_z, utc_text, IsUtcYear, generalized_text, IsGeneralizedYear}
use Rattle.picky_asn1_date.specs.Faults.{year_out_of_range, bad_date_text, no_such_date, any_fault, date_fault}
use Rattle.picky_asn1_date.specs.Reading.{IsSpelled, DateReading, reading_table, writing_table}
use Rattle.picky_asn1_date.specs.declared.error.DateError.{DateError}
use Rattle.picky_asn1_date.specs.declared.error.DateError.TheVariants.{YearOutOfRange, BadDateText, NoSuchDate, OutOfMemory}
use Rattle.picky_asn1_date.proofs.Places.{two_same}

pub same_moment : (m n : Moment) → m.year ≡ n.year → m.month ≡ n.month → m.day ≡ n.day → m.hour ≡ n.hour → m.minute ≡ n.minute → m.second ≡ n.second → m ≡ n
same_moment m n year month day hour minute second = λ i. record { year = year i; month = month i; day = day i; hour = hour i; minute = minute i; second = second i }

-- ---- a text of a form has one reading

record SameRest (m n : Moment) : Type 0 where
  month : m.month ≡ n.month
  day : m.day ≡ n.day
  hour : m.hour ≡ n.hour
  minute : m.minute ≡ n.minute
  second : m.second ≡ n.second

rest_same : (m n : Moment) → digits_and_z (m.month ∷ m.day ∷ m.hour ∷ m.minute ∷ m.second ∷ []) ≡ digits_and_z (n.month ∷ n.day ∷ n.hour ∷ n.minute ∷ n.second ∷ []) → SameRest m n
rest_same m n e =
    let month = two_same m.month n.month (digits_and_z (m.day ∷ m.hour ∷ m.minute ∷ m.second ∷ [])) (digits_and_z (n.day ∷ n.hour ∷ n.minute ∷ n.second ∷ [])) e in
    let day = two_same m.day n.day (digits_and_z (m.hour ∷ m.minute ∷ m.second ∷ [])) (digits_and_z (n.hour ∷ n.minute ∷ n.second ∷ [])) month.1 in
    let hour = two_same m.hour n.hour (digits_and_z (m.minute ∷ m.second ∷ [])) (digits_and_z (n.minute ∷ n.second ∷ [])) day.1 in
    let minute = two_same m.minute n.minute (digits_and_z (m.second ∷ [])) (digits_and_z (n.second ∷ [])) hour.1 in
    let second = two_same m.second n.second (digits_and_z []) (digits_and_z []) minute.1 in
    record { month = month.0; day = day.0; hour = hour.0; minute = minute.0; second = second.0 }

pub utc_one : (m n : Moment) → IsUtcYear m.year → IsUtcYear n.year → utc_text m ≡ utc_text n → m ≡ n
utc_one m n p q e =
    let first = two_same (m.year % 100) (n.year % 100) (digits_and_z (m.month ∷ m.day ∷ m.hour ∷ m.minute ∷ m.second ∷ [])) (digits_and_z (n.month ∷ n.day ∷ n.hour ∷ n.minute ∷ n.second ∷ [])) e in
    let places : m.year % 100 ≡ n.year % 100 = first.0 in
    let year : m.year ≡ n.year = omega arith in
    let rest = rest_same m n first.1 in
    same_moment m n year rest.month rest.day rest.hour rest.minute rest.second

pub generalized_one : (m n : Moment) → generalized_text m ≡ generalized_text n → m ≡ n
generalized_one m n e =
    let first = two_same (m.year / 100) (n.year / 100) (digits_and_z (m.year % 100 ∷ m.month ∷ m.day ∷ m.hour ∷ m.minute ∷ m.second ∷ [])) (digits_and_z (n.year % 100 ∷ n.month ∷ n.day ∷ n.hour ∷ n.minute ∷ n.second ∷ [])) e in
    let high : m.year / 100 ≡ n.year / 100 = first.0 in
    let next = two_same (m.year % 100) (n.year % 100) (digits_and_z (m.month ∷ m.day ∷ m.hour ∷ m.minute ∷ m.second ∷ [])) (digits_and_z (n.month ∷ n.day ∷ n.hour ∷ n.minute ∷ n.second ∷ [])) first.1 in
    let low : m.year % 100 ≡ n.year % 100 = next.0 in
    let year : m.year ≡ n.year = omega arith in
    let rest = rest_same m n next.1 in
    same_moment m n year rest.month rest.day rest.hour rest.minute rest.second

-- ---- a text that isn't that of so many numbers is that of no date

small_rest : (IsYear : ℕ → Type 0) (text : Moment → List ℕ) (bytes : List ℕ) (m : Moment) → IsSpelled IsYear text bytes m → All (λ n. n < 100) (m.month ∷ m.day ∷ m.hour ∷ m.minute ∷ m.second ∷ [])
small_rest IsYear text bytes m s =
    let P : ℕ → Type 0 = λ n. n < 100 in
    All-cons P m.month (m.day ∷ m.hour ∷ m.minute ∷ m.second ∷ []) s.month
    (All-cons P m.day (m.hour ∷ m.minute ∷ m.second ∷ []) s.day
    (All-cons P m.hour (m.minute ∷ m.second ∷ []) s.hour (All-cons P m.minute (m.second ∷ []) s.minute (All-cons P m.second [] s.second (All-nil P)))))

pub utc_small : (bytes : List ℕ) (m : Moment) → IsSpelled IsUtcYear utc_text bytes m → All (λ n. n < 100) (m.year % 100 ∷ m.month ∷ m.day ∷ m.hour ∷ m.minute ∷ m.second ∷ [])
utc_small bytes m s =
    let year : m.year % 100 < 100 = omega arith in
    All-cons (λ n. n < 100) (m.year % 100) (m.month ∷ m.day ∷ m.hour ∷ m.minute ∷ m.second ∷ []) year (small_rest IsUtcYear utc_text bytes m s)

pub generalized_small : (bytes : List ℕ) (m : Moment) → IsSpelled IsGeneralizedYear generalized_text bytes m → All (λ n. n < 100) (m.year / 100 ∷ m.year % 100 ∷ m.month ∷ m.day ∷ m.hour ∷ m.minute ∷ m.second ∷ [])
generalized_small bytes m s =
    let within : m.year ≤ 9999 = s.year in
    let high : m.year / 100 < 100 = omega arith in
    let low : m.year % 100 < 100 = omega arith in
    All-cons (λ n. n < 100) (m.year / 100) (m.year % 100 ∷ m.month ∷ m.day ∷ m.hour ∷ m.minute ∷ m.second ∷ []) high (All-cons (λ n. n < 100) (m.year % 100) (m.month ∷ m.day ∷ m.hour ∷ m.minute ∷ m.second ∷ []) low (small_rest IsGeneralizedYear generalized_text bytes m s))

pub no_utc : (bytes : List ℕ) → ((numbers : List ℕ) → length numbers ≡ 6 → All (λ n. n < 100) numbers → bytes ≢ digits_and_z numbers) → (m : Moment) → ¬ (IsSpelled IsUtcYear utc_text bytes m)
no_utc bytes none m s = none (m.year % 100 ∷ m.month ∷ m.day ∷ m.hour ∷ m.minute ∷ m.second ∷ []) refl (utc_small bytes m s) s.text

pub no_generalized : (bytes : List ℕ) → ((numbers : List ℕ) → length numbers ≡ 7 → All (λ n. n < 100) numbers → bytes ≢ digits_and_z numbers) → (m : Moment) → ¬ (IsSpelled IsGeneralizedYear generalized_text bytes m)
no_generalized bytes none m s = none (m.year / 100 ∷ m.year % 100 ∷ m.month ∷ m.day ∷ m.hour ∷ m.minute ∷ m.second ∷ []) refl (generalized_small bytes m s) s.text

-- ---- the tables

pub bad_text : (IsYear : ℕ → Type 0) (text : Moment → List ℕ) (bytes : List ℕ) → ((m : Moment) → ¬ (IsSpelled IsYear text bytes m)) → (reading_table IsYear text bytes).refuses bad_date_text
unfolding reading_table
bad_text IsYear text bytes none = inl (refl, none)

-- what `new` of the numbers answers
pub by_new : (IsYear : ℕ → Type 0) (text : Moment → List ℕ) (bytes : List ℕ) (m : Moment) (o : Option Moment) → IsSpelled IsYear text bytes m → ((n : Moment) → IsSpelled IsYear text bytes n → n ≡ m)
    → (IsSome o ↔ IsMoment m) → IfSome o (λ d. d ≡ m) → Meets (λ d. d) any_fault (ok_or o NoSuchDate) (reading_table IsYear text bytes)
unfolding reading_table
by_new IsYear text bytes m None s one exactly value = inr (m, (s, one), inl (refl, λ in_range. let some : IsSome {T = Moment} None = exactly.1 in_range in absurd (cc)))
by_new IsYear text bytes m (Some d) s one exactly value = (m, (s, one), (tt, exactly.0 refl, value))

pub reading_exact : (IsYear : ℕ → Type 0) (text : Moment → List ℕ) (bytes : List ℕ) → Exact (reading_table IsYear text bytes)
unfolding reading_table
reading_exact IsYear text bytes = then_exact (the (IsSpelled IsYear text bytes) bad_date_text) _ (the_exact (IsSpelled IsYear text bytes) bad_date_text) (λ m. then_exact (need (IsMoment m) no_such_date) _ (need_exact (IsMoment m) no_such_date) (λ _. done_exact m))

read_holds : (IsYear : ℕ → Type 0) (text : Moment → List ℕ) (bytes : List ℕ) (m : Moment) → (reading_table IsYear text bytes).holds m → DateReading IsYear text bytes m
unfolding reading_table
read_holds IsYear text bytes m h = subst (DateReading IsYear text bytes) (sym h.2.2) (record { year = h.1.year; moment = h.2.1; text = h.1.text })

pub spelled : (IsYear : ℕ → Type 0) (text : Moment → List ℕ) (bytes : List ℕ) (m : Moment) → DateReading IsYear text bytes m → IsSpelled IsYear text bytes m
spelled IsYear text bytes m r =
    let moment = r.moment in
    record { year = r.year; month = omega (arith, moment.month); day = omega (arith, moment.day); hour = omega (arith, moment.hour); minute = omega (arith, moment.minute); second = omega (arith, moment.second); text = r.text }

holds_read : (IsYear : ℕ → Type 0) (text : Moment → List ℕ) (bytes : List ℕ) (m : Moment) → DateReading IsYear text bytes m → (reading_table IsYear text bytes).holds m
unfolding reading_table
holds_read IsYear text bytes m r = (m, spelled IsYear text bytes m r, (tt, r.moment, refl))

pub read_found : (IsYear : ℕ → Type 0) (text : Moment → List ℕ) (bytes : List ℕ) (r : Result Moment DateError) → Meets (λ d. d) any_fault r (reading_table IsYear text bytes) → IfOk r (DateReading IsYear text bytes)
read_found IsYear text bytes (Ok m) h = read_holds IsYear text bytes m (found (λ d. d) any_fault (Ok m) (reading_table IsYear text bytes) (reading_exact IsYear text bytes) h)
read_found IsYear text bytes (Err e) h = tt

sure : (r : Result Moment DateError) (m : Moment) → OkOrMemory (λ d. d) any_fault r m → r ≡ Ok m
sure (Ok n) m h = ap Ok (sym h)
sure (Err YearOutOfRange) m h = absurd (cc)
sure (Err BadDateText) m h = absurd (cc)
sure (Err NoSuchDate) m h = absurd (cc)
sure (Err OutOfMemory) m h = absurd (cc)

pub read_every : (IsYear : ℕ → Type 0) (text : Moment → List ℕ) (bytes : List ℕ) (r : Result Moment DateError) → Meets (λ d. d) any_fault r (reading_table IsYear text bytes) → (m : Moment) → DateReading IsYear text bytes m → r ≡ Ok m
read_every IsYear text bytes r h m d = sure r m (complete (λ x. x) any_fault r (reading_table IsYear text bytes) (reading_exact IsYear text bytes) h m (holds_read IsYear text bytes m d))

pub writing_exact : (IsYear : ℕ → Type 0) (text : Moment → List ℕ) (m : Moment) → Exact (writing_table IsYear text m)
unfolding writing_table
writing_exact IsYear text m = then_exact (need (IsYear m.year) year_out_of_range) _ (need_exact (IsYear m.year) year_out_of_range) (λ _. done_exact (text m))

write_holds : (IsYear : ℕ → Type 0) (text : Moment → List ℕ) (m : Moment) (bytes : List ℕ) → (writing_table IsYear text m).holds bytes → IsYear m.year × (bytes ≡ text m)
unfolding writing_table
write_holds IsYear text m bytes h = (h.1, h.2)

holds_write : (IsYear : ℕ → Type 0) (text : Moment → List ℕ) (m : Moment) → IsYear m.year → (writing_table IsYear text m).holds (text m)
unfolding writing_table
holds_write IsYear text m year = (tt, year, refl)

pub write_found : {X : Type 0} (IsYear : ℕ → Type 0) (text : Moment → List ℕ) (m : Moment) (view : X → List ℕ) (r : Result X DateError) → Meets view date_fault r (writing_table IsYear text m) → IfOk r (λ x. IsYear m.year × (view x ≡ text m))
write_found IsYear text m view (Ok x) h = write_holds IsYear text m (view x) (found view date_fault (Ok x) (writing_table IsYear text m) (writing_exact IsYear text m) h)
write_found IsYear text m view (Err e) h = tt

pub write_every : {X : Type 0} (IsYear : ℕ → Type 0) (text : Moment → List ℕ) (m : Moment) (view : X → List ℕ) (r : Result X DateError) → Meets view date_fault r (writing_table IsYear text m) → IsYear m.year → OkOrMemory view date_fault r (text m)
write_every IsYear text m view r h year = complete view date_fault r (writing_table IsYear text m) (writing_exact IsYear text m) h (text m) (holds_write IsYear text m year)

-- ---- the numbers that were read

six : (ns : List ℕ) → length ns ≡ 6 → ns ≡ get_or ns 0 0 ∷ get_or ns 1 0 ∷ get_or ns 2 0 ∷ get_or ns 3 0 ∷ get_or ns 4 0 ∷ get_or ns 5 0 ∷ []
six (a ∷ b ∷ c ∷ d ∷ e ∷ f ∷ []) l = refl
six ns l = absurd (omega arith)

seven : (ns : List ℕ) → length ns ≡ 7 → ns ≡ get_or ns 0 0 ∷ get_or ns 1 0 ∷ get_or ns 2 0 ∷ get_or ns 3 0 ∷ get_or ns 4 0 ∷ get_or ns 5 0 ∷ get_or ns 6 0 ∷ []
seven (a ∷ b ∷ c ∷ d ∷ e ∷ f ∷ g ∷ []) l = refl
seven ns l = absurd (omega arith)

-- the date of the six numbers
abbrev pub utc_of : ℕ → List ℕ → Moment
utc_of year ns = record { year = year; month = get_or ns 1 0; day = get_or ns 2 0; hour = get_or ns 3 0; minute = get_or ns 4 0; second = get_or ns 5 0 }

pub utc_given : (bytes ns : List ℕ) (year : ℕ) → (length ns ≡ 6) × All (λ n. n < 100) ns × (bytes ≡ digits_and_z ns) → IsUtcYear year → year % 100 ≡ get_or ns 0 0 → IsSpelled IsUtcYear utc_text bytes (utc_of year ns)
utc_given bytes ns year h covered places =
    let parts : digits_and_z ns ≡ digits_and_z (get_or ns 0 0 ∷ get_or ns 1 0 ∷ get_or ns 2 0 ∷ get_or ns 3 0 ∷ get_or ns 4 0 ∷ get_or ns 5 0 ∷ []) = ap digits_and_z (six ns h.0) in
    record {
      year = covered;
      month = h.1 1 0 (omega (arith, h.0));
      day = h.1 2 0 (omega (arith, h.0));
      hour = h.1 3 0 (omega (arith, h.0));
      minute = h.1 4 0 (omega (arith, h.0));
      second = h.1 5 0 (omega (arith, h.0));
      text = h.2 ∙ parts ∙ ap (λ n. digits_and_z (n ∷ get_or ns 1 0 ∷ get_or ns 2 0 ∷ get_or ns 3 0 ∷ get_or ns 4 0 ∷ get_or ns 5 0 ∷ [])) (sym places);
    }

pub utc_only : (bytes : List ℕ) (m : Moment) → IsSpelled IsUtcYear utc_text bytes m → (n : Moment) → IsSpelled IsUtcYear utc_text bytes n → n ≡ m
utc_only bytes m s n t = utc_one n m t.year s.year (sym t.text ∙ s.text)

-- the date of the seven numbers
abbrev pub generalized_of : ℕ → List ℕ → Moment
generalized_of year ns = record { year = year; month = get_or ns 2 0; day = get_or ns 3 0; hour = get_or ns 4 0; minute = get_or ns 5 0; second = get_or ns 6 0 }

pub generalized_given : (bytes ns : List ℕ) (year : ℕ) → (length ns ≡ 7) × All (λ n. n < 100) ns × (bytes ≡ digits_and_z ns) → year ≡ 100 * get_or ns 0 0 + get_or ns 1 0
    → IsSpelled IsGeneralizedYear generalized_text bytes (generalized_of year ns)
generalized_given bytes ns year h is =
    let century : get_or ns 0 0 < 100 = h.1 0 0 (omega (arith, h.0)) in
    let places : get_or ns 1 0 < 100 = h.1 1 0 (omega (arith, h.0)) in
    let high : get_or ns 0 0 ≡ year / 100 = omega arith in
    let low : get_or ns 1 0 ≡ year % 100 = omega arith in
    let parts : digits_and_z ns ≡ digits_and_z (get_or ns 0 0 ∷ get_or ns 1 0 ∷ get_or ns 2 0 ∷ get_or ns 3 0 ∷ get_or ns 4 0 ∷ get_or ns 5 0 ∷ get_or ns 6 0 ∷ []) = ap digits_and_z (seven ns h.0) in
    record {
      year = omega arith;
      month = h.1 2 0 (omega (arith, h.0));
      day = h.1 3 0 (omega (arith, h.0));
      hour = h.1 4 0 (omega (arith, h.0));
      minute = h.1 5 0 (omega (arith, h.0));
      second = h.1 6 0 (omega (arith, h.0));
      text = h.2 ∙ parts ∙ ap (λ n. digits_and_z (n ∷ get_or ns 1 0 ∷ get_or ns 2 0 ∷ get_or ns 3 0 ∷ get_or ns 4 0 ∷ get_or ns 5 0 ∷ get_or ns 6 0 ∷ [])) high
          ∙ ap (λ n. digits_and_z (year / 100 ∷ n ∷ get_or ns 2 0 ∷ get_or ns 3 0 ∷ get_or ns 4 0 ∷ get_or ns 5 0 ∷ get_or ns 6 0 ∷ [])) low;
    }

pub generalized_only : (bytes : List ℕ) (m : Moment) → IsSpelled IsGeneralizedYear generalized_text bytes m → (n : Moment) → IsSpelled IsGeneralizedYear generalized_text bytes n → n ≡ m
generalized_only bytes m s n t = generalized_one n m (sym t.text ∙ s.text)
