-- Digits and Z are the text of numbers of two digits each.
use Rattle.std.proofs.Common.{◌≡◌, ◌↔◌, inl, inr, ℕ, zero, suc, ◌+◌, ◌-◌, ◌*◌, ◌/◌, ◌%◌, ◌<◌, ◌≤◌, List, [], ◌∷◌, ◌++◌, length, refl, sym, ap, ◌∙◌, All, arith}
use Rattle.std.specs.Prelude.{codes}
use Rattle.std.specs.Int.{IsInRange}
use Rattle.std.proofs.lemmas.Bool.{cases_lt}
use Rattle.std.proofs.lemmas.List.Elements.{All-nil, All-cons, All-head, All-tail}
use Rattle.picky_asn1_date.specs.Moment.{Moment, IsMoment}
use Rattle.picky_asn1_date.specs.DateText.{two_digits, digits_and_z, utc_text, IsUtcYear, generalized_text, IsGeneralizedYear, IsDigitsAndZ}
use Rattle.picky_asn1_date.specs.Reading.{IsSpelled}
use Rattle.picky_asn1_date.proofs.Places.{digits_onto, digits_onto_z, digits_onto_rest}
use Rattle.picky_asn1_date.proofs.Forms.{utc_small, generalized_small, spelled}

-- ---- from numbers to digits

digit_range : (n : ℕ) → n < 100 → IsInRange 48 57 (48 + n / 10) × IsInRange 48 57 (48 + n % 10)
digit_range n h =
    let tens : n / 10 ≤ 9 = omega arith in
    let ones : n % 10 ≤ 9 = omega arith in
    ((omega arith, omega arith), (omega arith, omega arith))

all_digits : (ns : List ℕ) → All (λ n. n < 100) ns → All (IsInRange 48 57) (digits_onto ns [])
all_digits [] h = All-nil (IsInRange 48 57)
all_digits (n ∷ ns) h =
    let here = digit_range n (All-head (λ x. x < 100) n ns h) in
    All-cons (IsInRange 48 57) (48 + n / 10) ((48 + n % 10) ∷ digits_onto ns []) here.0 (All-cons (IsInRange 48 57) (48 + n % 10) (digits_onto ns []) here.1 (all_digits ns (All-tail (λ x. x < 100) n ns h)))

length_digits : (ns : List ℕ) → length (digits_onto ns []) ≡ 2 * length ns
length_digits [] = refl
length_digits (n ∷ ns) = let more = length_digits ns in omega arith

pub to_digits : (count : ℕ) (ns bytes : List ℕ) → 2 * length ns ≡ count → All (λ n. n < 100) ns → bytes ≡ digits_and_z ns → IsDigitsAndZ count bytes
to_digits count ns bytes l h e = (digits_onto ns [], length_digits ns ∙ l, all_digits ns h, e ∙ sym (digits_onto_z ns) ∙ sym (digits_onto_rest ns (codes "Z")))

-- ---- from digits to numbers

record Numbers (count : ℕ) (digits : List ℕ) : Type 0 where
  numbers : List ℕ
  counted : length numbers ≡ count
  small : All (λ n. n < 100) numbers
  text : digits ++ codes "Z" ≡ digits_and_z numbers

pair_of : (a b : ℕ) → IsInRange 48 57 a → IsInRange 48 57 b → (n : ℕ) × (n < 100) × (a ≡ 48 + n / 10) × (b ≡ 48 + n % 10)
pair_of a b p q =
    let low : 48 ≤ a = p.0 in
    let high : a ≤ 57 = p.1 in
    let low' : 48 ≤ b = q.0 in
    let high' : b ≤ 57 = q.1 in
    (10 * (a - 48) + (b - 48), omega arith, omega arith, omega arith)

two_more : (a b n : ℕ) (rest more : List ℕ) → a ≡ 48 + n / 10 → b ≡ 48 + n % 10 → rest ≡ more → a ∷ b ∷ rest ≡ two_digits n ++ more
two_more a b n rest more tens ones e = λ i. tens i ∷ ones i ∷ e i

numbers_of : (count : ℕ) (digits : List ℕ) → length digits ≡ 2 * count → All (IsInRange 48 57) digits → Numbers count digits
numbers_of zero [] l h = record { numbers = []; counted = refl; small = All-nil (λ n. n < 100); text = refl }
numbers_of zero (a ∷ digits) l h = absurd (omega arith)
numbers_of (suc count) [] l h = absurd (omega arith)
numbers_of (suc count) (a ∷ []) l h = absurd (omega arith)
numbers_of (suc count) (a ∷ b ∷ digits) l h =
    let tail = All-tail (IsInRange 48 57) a (b ∷ digits) h in
    let n = pair_of a b (All-head (IsInRange 48 57) a (b ∷ digits) h) (All-head (IsInRange 48 57) b digits tail) in
    let more = numbers_of count digits (omega arith) (All-tail (IsInRange 48 57) b digits tail) in
    record {
      numbers = n.0 ∷ more.numbers;
      counted = ap suc more.counted;
      small = All-cons (λ x. x < 100) n.0 more.numbers n.1 more.small;
      text = two_more a b (n.0) (digits ++ codes "Z") (digits_and_z more.numbers) n.2 n.3 more.text;
    }

utc_year_of : (y : ℕ) → y < 100 → (year : ℕ) × IsUtcYear year × (year % 100 ≡ y)
utc_year_of y h = elim (cases_lt y 50) [ inl low ↦ (2000 + y, (omega arith, omega arith), omega arith) | inr high ↦ (1900 + y, (omega arith, omega arith), omega arith) ]

utc_spelled : (bytes ns : List ℕ) → length ns ≡ 6 → All (λ n. n < 100) ns → bytes ≡ digits_and_z ns → (m : Moment) × IsSpelled IsUtcYear utc_text bytes m
utc_spelled bytes (y ∷ month ∷ day ∷ hour ∷ minute ∷ second ∷ []) l h e =
    let year = utc_year_of y (h 0 0 (omega arith)) in (
      record { year = year.0; month = month; day = day; hour = hour; minute = minute; second = second },
      record {
        year = year.1;
        month = h 1 0 (omega arith);
        day = h 2 0 (omega arith);
        hour = h 3 0 (omega arith);
        minute = h 4 0 (omega arith);
        second = h 5 0 (omega arith);
        text = e ∙ ap (λ n. digits_and_z (n ∷ month ∷ day ∷ hour ∷ minute ∷ second ∷ [])) (sym year.2);
      },
    )
utc_spelled bytes ns l h e = absurd (omega arith)

generalized_spelled : (bytes ns : List ℕ) → length ns ≡ 7 → All (λ n. n < 100) ns → bytes ≡ digits_and_z ns → (m : Moment) × IsSpelled IsGeneralizedYear generalized_text bytes m
generalized_spelled bytes (c ∷ y ∷ month ∷ day ∷ hour ∷ minute ∷ second ∷ []) l h e =
    let century : c < 100 = h 0 0 (omega arith) in
    let year : y < 100 = h 1 0 (omega arith) in
    let high : c ≡ (100 * c + y) / 100 = omega arith in
    let low : y ≡ (100 * c + y) % 100 = omega arith in (
      record { year = 100 * c + y; month = month; day = day; hour = hour; minute = minute; second = second },
      record {
        year = omega arith;
        month = h 2 0 (omega arith);
        day = h 3 0 (omega arith);
        hour = h 4 0 (omega arith);
        minute = h 5 0 (omega arith);
        second = h 6 0 (omega arith);
        text = e ∙ ap (λ n. digits_and_z (n ∷ y ∷ month ∷ day ∷ hour ∷ minute ∷ second ∷ [])) high ∙ ap (λ n. digits_and_z ((100 * c + y) / 100 ∷ n ∷ month ∷ day ∷ hour ∷ minute ∷ second ∷ [])) low;
      },
    )
generalized_spelled bytes ns l h e = absurd (omega arith)

pub utc_digits : (bytes : List ℕ) → (IsDigitsAndZ 12 bytes ↔ ((m : Moment) × IsSpelled IsUtcYear utc_text bytes m))
utc_digits bytes = (
  (λ d. let n = numbers_of 6 d.0 d.1 d.2 in utc_spelled bytes n.numbers n.counted n.small (d.3 ∙ n.text)),
  (λ s. to_digits 12 (s.0.year % 100 ∷ s.0.month ∷ s.0.day ∷ s.0.hour ∷ s.0.minute ∷ s.0.second ∷ []) bytes refl (utc_small bytes s.0 s.1) s.1.text),
)

pub generalized_digits : (bytes : List ℕ) → (IsDigitsAndZ 14 bytes ↔ ((m : Moment) × IsSpelled IsGeneralizedYear generalized_text bytes m))
generalized_digits bytes = (
  (λ d. let n = numbers_of 7 d.0 d.1 d.2 in generalized_spelled bytes n.numbers n.counted n.small (d.3 ∙ n.text)),
  (λ s. to_digits 14 (s.0.year / 100 ∷ s.0.year % 100 ∷ s.0.month ∷ s.0.day ∷ s.0.hour ∷ s.0.minute ∷ s.0.second ∷ []) bytes refl (generalized_small bytes s.0 s.1) s.1.text),
)

pub utc_text_digits : (m : Moment) → IsMoment m → IsUtcYear m.year → IsDigitsAndZ 12 (utc_text m)
utc_text_digits m h year = (utc_digits (utc_text m)).1 (m, spelled IsUtcYear utc_text (utc_text m) m (record { year = year; moment = h; text = refl }))

pub generalized_text_digits : (m : Moment) → IsMoment m → IsGeneralizedYear m.year → IsDigitsAndZ 14 (generalized_text m)
generalized_text_digits m h year = (generalized_digits (generalized_text m)).1 (m, spelled IsGeneralizedYear generalized_text (generalized_text m) m (record { year = year; moment = h; text = refl }))
