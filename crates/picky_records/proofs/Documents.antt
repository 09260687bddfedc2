-- A document that is read line by line.
use Rattle.std.proofs.Common.{◌≡◌, ℕ, ◌+◌, List, [], ◌∷◌, ◌++◌, length, refl, sym, subst, inl, arith, true≢false}
use Rattle.std.specs.Prelude.{◌==◌, true, false}
use Rattle.std.proofs.lemmas.Bool.{eqb-true}
use Rattle.picky_contract.specs.Text.{IsCutAtFirst}
use Rattle.picky_contract.specs.laws.Tables.{Leads, leads_itself}
use Rattle.picky_records.specs.declared.error.RecordFault.{RecordFault}
use Rattle.picky_records.specs.declared.error.RecordFault.TheVariants.{BadLine}
use Rattle.picky_records.specs.declared.line.Line.{Line}
use Rattle.picky_records.specs.Cutting.{line_feed, lines_in, left_in}
use Rattle.picky_records.specs.Reading.{row, left_table, records_table}
use Rattle.picky_records.proofs.Cutting.{IsUncut, lines_cut, left_same, no_lines, all_left}
use Rattle.picky_records.proofs.Rows.{rest_of, leads_turn, refuses_turn, leads_end}

-- what is left of the document, where these lines are read, leads to the whole
abbrev pub Reads : List Line → List ℕ → List ℕ → Type 0
Reads before rest doc = Leads (rest_of row (left_table (left_in rest)) before (lines_in rest)) (records_table doc)

pub reads_first : (doc : List ℕ) (none : List Line) → none ≡ [] → Reads none doc doc
unfolding records_table
reads_first doc none e = subst (λ (x : List Line). Reads x doc doc) (sym e) (leads_itself (records_table doc))

at_line : (before : List Line) (rest line after doc : List ℕ) → IsCutAtFirst line_feed rest line after → Reads before rest doc
    → Leads (rest_of row (left_table (left_in after)) before (line ∷ lines_in after)) (records_table doc)
at_line before rest line after doc cut reads =
    subst (λ (x : List ℕ). Leads (rest_of row (left_table x) before (line ∷ lines_in after)) (records_table doc)) (left_same rest line after cut)
    (subst (λ (x : List (List ℕ)). Leads (rest_of row (left_table (left_in rest)) before x) (records_table doc)) (lines_cut rest line after cut) reads)

-- one line more
pub reads_on : (before now : List Line) (rest line after doc : List ℕ) (x : Line) → IsCutAtFirst line_feed rest line after → (row before line).gives x
    → now ≡ before ++ x ∷ [] → Reads before rest doc → Reads now after doc
reads_on before now rest line after doc x cut gives pushed reads =
    subst (λ (y : List Line). Reads y after doc) (sym pushed)
    (leads_turn row (left_table (left_in after)) before line (lines_in after) x (records_table doc) gives (at_line before rest line after doc cut reads))

-- a line that is refused
pub reads_no_further : (before : List Line) (rest line after doc : List ℕ) → IsCutAtFirst line_feed rest line after → Reads before rest doc
    → (f : RecordFault) → (row before line).refuses f → (records_table doc).refuses f
reads_no_further before rest line after doc cut reads f refused =
    refuses_turn row (left_table (left_in after)) before line (lines_in after) (records_table doc) f refused (at_line before rest line after doc cut reads)

at_end : (before : List Line) (rest doc : List ℕ) → IsUncut line_feed rest → Reads before rest doc → Leads (left_table rest before) (records_table doc)
at_end before rest doc uncut reads = leads_end row (left_table rest) before (records_table doc)
    (subst (λ (x : List ℕ). Leads (rest_of row (left_table x) before []) (records_table doc)) (all_left rest uncut)
    (subst (λ (x : List (List ℕ)). Leads (rest_of row (left_table (left_in rest)) before x) (records_table doc)) (no_lines rest uncut) reads))

-- nothing is left
pub reads_all : (before : List Line) (rest doc : List ℕ) → IsUncut line_feed rest → rest ≡ [] → Reads before rest doc → (records_table doc).gives before
unfolding left_table
reads_all before rest doc uncut empty reads = (at_end before rest doc uncut reads).gives before (tt, empty, refl)

-- a text without its LF is left
pub reads_too_far : (before : List Line) (rest doc : List ℕ) → IsUncut line_feed rest → (rest ≡ [] → ⊥) → Reads before rest doc
    → (records_table doc).refuses (BadLine (length before + 1))
unfolding left_table
reads_too_far before rest doc uncut some reads = (at_end before rest doc uncut reads).refuses (BadLine (length before + 1)) (inl (refl, some))

pub is_nothing : (text : List ℕ) → (length text == 0) ≡ true → text ≡ []
is_nothing [] h = refl
is_nothing (b ∷ text) h = let zero : length (b ∷ text) ≡ 0 = eqb-true _ _ h in absurd (omega (arith, zero))

pub is_something : (text : List ℕ) → (length text == 0) ≡ false → text ≡ [] → ⊥
is_something [] h e = true≢false h
is_something (b ∷ text) h e = cc
