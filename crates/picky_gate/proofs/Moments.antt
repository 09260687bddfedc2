-- Numbers that digits write.
use Rattle.std.proofs.Common.{◌≡◌, ◌<◌, ◌≤◌, ◌^◌, ℕ, List, length, Result, Err, subst, arith, true}
use Rattle.std.proofs.lemmas.Str.Parse.{IsNumeralModel, numerals_by_value, tells_all_ascii_digits, parse_digits}
use Rattle.std.specs.Str.{all_ascii_digits}
use Rattle.std.specs.Str.Parse.{digits_value, ParsesUnsigned}
use Rattle.std.specs.Result.{OkIff}

numerals : IsNumeralModel (λ ds. all_ascii_digits ds ≡ true) (digits_value 10)
numerals = numerals_by_value _ tells_all_ascii_digits

parsed : {E : Type 0} (text : List ℕ) (r : Result ℕ E) → ParsesUnsigned 64 10 text r → all_ascii_digits text ≡ true → OkIff r ((0 < length text) × (digits_value 10 text < 2 ^ 64)) (digits_value 10 text)
parsed text r h digits = parse_digits numerals 64 text r h digits

-- digits that aren't read write a greater number
pub too_big : {E : Type 0} (last : ℕ) (text : List ℕ) (r : Result ℕ E) (e : E) (n : ℕ) → last < 2 ^ 64 → ParsesUnsigned 64 10 text r → all_ascii_digits text ≡ true → 0 < length text → r ≡ Err e → digits_value 10 text ≡ n → n ≤ last → ⊥
too_big {E} last text r e n bound h digits some is value fits =
    let none : (0 < length text) × (digits_value 10 text < 2 ^ 64) → ⊥ = subst (λ (r : Result ℕ E). OkIff r ((0 < length text) × (digits_value 10 text < 2 ^ 64)) (digits_value 10 text)) is (parsed text r h digits) in
    none (some, omega arith)
