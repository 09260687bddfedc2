-- The rows of a document hold of the lines that it has, and such lines are sound.
use Rattle.std.specs.Prelude.{◌≡◌, ◌&&◌, ◌||◌, ℕ, ◌+◌, Bool, true, false, not, List, [], ◌∷◌, ◌++◌, length}
use Rattle.std.proofs.Common.{refl, sym, ap, subst, ◌∙◌, append_assoc}
use Rattle.std.proofs.lemmas.Bool.{and_parts, and_from}
use Rattle.std.proofs.lemmas.List.{append-nil}
use Rattle.picky_records.specs.declared.line.Line.{Line}
use Rattle.picky_records.specs.declared.line.Line.TheVariants.{Sig, Pair, Unwrap, Agree}
use Rattle.picky_records.specs.Lines.{in_form, in_family, own_conflict, some_conflicts, conflicts_with, is_proper, no_conflicts, are_sound, AreSound}
use Rattle.picky_records.specs.Forms.{IsForm}
use Rattle.picky_records.specs.Cutting.{fields_in, lines_in}
use Rattle.picky_records.specs.Reading.{row, each_after, left_table, records_table}
use Rattle.picky_records.specs.Records.{IsLine, AreLines, AreRecords}
use Rattle.picky_records.specs.laws.Forms.{form_is, form_holds}

-- ---- the table, and the lines

row_is : (before : List Line) (text : List ℕ) (line : Line) → (row before text).holds line → IsLine before text line
unfolding row
row_is before text line (l, form, (_, family, (_, free, e))) = subst (λ x. IsLine before text x) (sym e) (record {
  form = form_is (length before + 1) (fields_in text) l form;
  family = family;
  free = free;
})

row_holds : (before : List Line) (text : List ℕ) (line : Line) → IsLine before text line → (row before text).holds line
unfolding row
row_holds before text line h = (line, form_holds (length before + 1) (fields_in text) line h.form, (tt, h.family, (tt, h.free, refl)))

rows_are : (before : List Line) (texts : List (List ℕ)) (all : List Line) → (each_after row before texts).holds all → (lines : List Line) × (all ≡ before ++ lines) × AreLines before texts lines
unfolding each_after
rows_are before [] all h = ([], h ∙ sym (append-nil before), tt)
rows_are before (text ∷ texts) all (line, first, rest) =
    let p = rows_are (before ++ line ∷ []) texts all rest in
    (line ∷ p.0, p.1 ∙ append_assoc before (line ∷ []) p.0, (row_is before text line first, p.2))

rows_hold : (before : List Line) (texts : List (List ℕ)) (lines : List Line) → AreLines before texts lines → (each_after row before texts).holds (before ++ lines)
unfolding each_after
rows_hold before [] [] h = append-nil before
rows_hold before [] (line ∷ lines) h = absurd h
rows_hold before (text ∷ texts) [] h = absurd h
rows_hold before (text ∷ texts) (line ∷ lines) h = (
  line,
  row_holds before text line h.0,
  subst (λ (x : List Line). (each_after row (before ++ line ∷ []) texts).holds x) (append_assoc before (line ∷ []) lines) (rows_hold (before ++ line ∷ []) texts lines h.1),
)

pub records_are : (doc : List ℕ) (lines : List Line) → (records_table doc).holds lines → AreRecords doc lines
unfolding records_table left_table
records_are doc lines (all, rows, (_, ended, e)) =
    let p = rows_are [] (lines_in doc) all rows in
    record { lines_are = subst (λ (x : List Line). AreLines [] (lines_in doc) x) (sym p.1 ∙ sym e) p.2; ended = ended }

pub records_hold : (doc : List ℕ) (lines : List Line) → AreRecords doc lines → (records_table doc).holds lines
unfolding records_table left_table
records_hold doc lines h = (lines, rows_hold [] (lines_in doc) lines h.lines_are, (tt, h.ended, refl))

-- ---- soundness

or_parts : (x y : Bool) → (x || y) ≡ false → (x ≡ false) × (y ≡ false)
or_parts true y h = cc
or_parts false y h = (refl, h)

not_of : (x : Bool) → x ≡ false → not x ≡ true
not_of x h = ap not h

-- a line's form says what its signature is
form_of : (fields : List (List ℕ)) (line : Line) → IsForm fields line → in_form line ≡ true
form_of fields (Sig k a m s) h = h.wanted
form_of fields (Pair k q) h = refl
form_of fields (Unwrap t k w c) h = refl
form_of fields (Agree a b s) h = refl

proper_of : (before : List Line) (text : List ℕ) (line : Line) → IsLine before text line → is_proper line ≡ true
proper_of before text line h =
    let own = (or_parts (own_conflict line) (some_conflicts before line) h.free).0 in
    and_from (in_form line) (in_family line && not (own_conflict line)) (form_of (fields_in text) line h.form)
    (and_from (in_family line) (not (own_conflict line)) h.family (not_of _ own))

free_on : (l : Line) (ls : List Line) (line : Line) → no_conflicts l ls ≡ true → conflicts_with l line ≡ false → no_conflicts l (ls ++ line ∷ []) ≡ true
free_on l [] line none apart = and_from (not (conflicts_with l line)) true (not_of _ apart) refl
free_on l (m ∷ ls) line none apart =
    let p = and_parts (not (conflicts_with l m)) (no_conflicts l ls) none in
    and_from (not (conflicts_with l m)) (no_conflicts l (ls ++ line ∷ [])) p.0 (free_on l ls line p.1 apart)

sound_on : (ls : List Line) (line : Line) → AreSound ls → is_proper line ≡ true → some_conflicts ls line ≡ false → AreSound (ls ++ line ∷ [])
sound_on [] line sound proper free = and_from (is_proper line) true proper refl
sound_on (l ∷ ls) line sound proper free =
    let p = and_parts (is_proper l) (no_conflicts l ls && are_sound ls) sound in
    let q = and_parts (no_conflicts l ls) (are_sound ls) p.1 in
    let f = or_parts (conflicts_with l line) (some_conflicts ls line) free in
    and_from (is_proper l) (no_conflicts l (ls ++ line ∷ []) && are_sound (ls ++ line ∷ [])) p.0
    (and_from (no_conflicts l (ls ++ line ∷ [])) (are_sound (ls ++ line ∷ [])) (free_on l ls line q.0 f.0) (sound_on ls line q.1 proper f.1))

sound_after : (before : List Line) (texts : List (List ℕ)) (lines : List Line) → AreSound before → AreLines before texts lines → AreSound (before ++ lines)
sound_after before [] [] sound h = subst (λ (x : List Line). AreSound x) (sym (append-nil before)) sound
sound_after before [] (line ∷ lines) sound h = absurd h
sound_after before (text ∷ texts) [] sound h = absurd h
sound_after before (text ∷ texts) (line ∷ lines) sound h =
    let free = or_parts (own_conflict line) (some_conflicts before line) h.0.free in
    subst (λ (x : List Line). AreSound x) (append_assoc before (line ∷ []) lines)
    (sound_after (before ++ line ∷ []) texts lines (sound_on before line sound (proper_of before text line h.0) free.1) h.1)

pub are_sound_records : (doc : List ℕ) (lines : List Line) → AreRecords doc lines → AreSound lines
are_sound_records doc lines h = sound_after [] (lines_in doc) lines refl h.lines_are

-- one line more, where its rows hold
pub sound_next : (before now : List Line) (text : List ℕ) (line : Line) → AreSound before → (row before text).holds line → now ≡ before ++ line ∷ [] → AreSound now
sound_next before now text line sound holds pushed =
    subst (λ (x : List Line). AreSound x) (sym pushed) (sound_after before (text ∷ []) (line ∷ []) sound (row_is before text line holds, tt))
