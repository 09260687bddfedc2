-- The ends of reading one line after those before it.
use Rattle.std.proofs.Common.{◌≡◌, ℕ, ◌+◌, List, length, inl, inr, subst}
use Rattle.picky_records.specs.declared.error.RecordFault.{RecordFault}
use Rattle.picky_records.specs.declared.line.Line.{Line}
use Rattle.picky_records.specs.Cutting.{fields_in}
use Rattle.picky_records.specs.Reading.{form_table, standing, row}

-- the text has no form
pub no_form : (before : List Line) (text : List ℕ) (n : ℕ) → n ≡ length before → (f : RecordFault) → (form_table (n + 1) (fields_in text)).refuses f → (row before text).refuses f
unfolding row
no_form before text n is f refused = inl (subst (λ (k : ℕ). (form_table (k + 1) (fields_in text)).refuses f) is refused)

-- its line doesn't stand
pub no_standing : (before : List Line) (text : List ℕ) (n : ℕ) (line : Line) → n ≡ length before → (form_table (n + 1) (fields_in text)).gives line
    → (f : RecordFault) → (standing before (n + 1) line).refuses f → (row before text).refuses f
unfolding row standing
no_standing before text n line is formed f refused =
    inr (line, subst (λ (k : ℕ). (form_table (k + 1) (fields_in text)).gives line) is formed, subst (λ (k : ℕ). (standing before (k + 1) line).refuses f) is refused)

-- its line stands
pub stands : (before : List Line) (text : List ℕ) (n : ℕ) (line : Line) → n ≡ length before → (form_table (n + 1) (fields_in text)).gives line
    → (standing before (n + 1) line).gives line → (row before text).gives line
unfolding row standing
stands before text n line is formed given =
    (line, subst (λ (k : ℕ). (form_table (k + 1) (fields_in text)).gives line) is formed, subst (λ (k : ℕ). (standing before (k + 1) line).gives line) is given)
