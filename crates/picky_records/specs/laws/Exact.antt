-- The tables of a records document say one thing.
use Rattle.std.specs.Prelude.{ℕ, ◌+◌, Bool, true, false, List, [], ◌∷◌, ◌++◌, length, codes}
use Rattle.std.proofs.Common.{sym, ◌∙◌}
use Rattle.std.specs.Str.{bytes_eq}
use Rattle.picky_contract.specs.Refusals.{Table}
use Rattle.picky_contract.specs.laws.Tables.{Exact, the_exact, need_exact, done_exact, then_exact}
use Rattle.picky_records.specs.declared.error.RecordFault.{RecordFault}
use Rattle.picky_records.specs.declared.error.RecordFault.TheVariants.{BadLine}
use Rattle.picky_records.specs.declared.line.Line.{Line}
use Rattle.picky_records.specs.Cutting.{lines_in, left_in, fields_in}
use Rattle.picky_records.specs.Reading.{public_field, private_field, sig_table, pair_table, unwrap_table, agree_table, form_table, when, either, refused, row, each_after, left_table, records_table}

public_exact : (n : ℕ) (text : List ℕ) → Exact (public_field n text)
unfolding public_field
public_exact n text = then_exact _ _ (the_exact _ _) (λ bytes. the_exact _ _)

private_exact : (n : ℕ) (text : List ℕ) → Exact (private_field n text)
unfolding private_field
private_exact n text = then_exact _ _ (the_exact _ _) (λ bytes. the_exact _ _)

sig_exact : (n : ℕ) (a b c d : List ℕ) → Exact (sig_table n a b c d)
unfolding sig_table
sig_exact n a b c d = then_exact _ _ (the_exact _ _) (λ name. then_exact _ _ (public_exact n b) (λ key. then_exact _ _ (the_exact _ _) (λ m. then_exact _ _ (the_exact _ _) (λ s. then_exact _ _ (need_exact _ _) (λ _. done_exact _)))))

pair_exact : (n : ℕ) (a b : List ℕ) → Exact (pair_table n a b)
unfolding pair_table
pair_exact n a b = then_exact _ _ (private_exact n a) (λ k. then_exact _ _ (public_exact n b) (λ q. done_exact _))

unwrap_exact : (n : ℕ) (a b c d : List ℕ) → Exact (unwrap_table n a b c d)
unfolding unwrap_table
unwrap_exact n a b c d = then_exact _ _ (the_exact _ _) (λ name. then_exact _ _ (private_exact n b) (λ key. then_exact _ _ (the_exact _ _) (λ m. then_exact _ _ (the_exact _ _) (λ s. done_exact _))))

agree_exact : (n : ℕ) (a b c : List ℕ) → Exact (agree_table n a b c)
unfolding agree_table
agree_exact n a b c = then_exact _ _ (public_exact n a) (λ p. then_exact _ _ (public_exact n b) (λ q. then_exact _ _ (the_exact _ _) (λ s. done_exact _)))

refused_exact : {X F : Type 0} (f : F) → Exact (refused {X = X} f)
refused_exact f = record { holds = λ x h. h; one = λ x y h k. absurd h; apart = λ g y h k. k; only = λ g d h k. k ∙ sym h }

when_exact : (b : Bool) (n : ℕ) (t : Table Line RecordFault) → Exact t → Exact (when b n t)
when_exact true n t e = e
when_exact false n t e = refused_exact (BadLine n)

either_exact : (b : Bool) (t u : Table Line RecordFault) → Exact t → Exact u → Exact (either b t u)
either_exact true t u e f = e
either_exact false t u e f = f

form_exact : (n : ℕ) (fs : List (List ℕ)) → Exact (form_table n fs)
unfolding form_table
form_exact n [] = refused_exact (BadLine n)
form_exact n (w ∷ []) = refused_exact (BadLine n)
form_exact n (w ∷ a ∷ []) = refused_exact (BadLine n)
form_exact n (w ∷ a ∷ b ∷ []) = when_exact (bytes_eq w (codes "pair")) n (pair_table n a b) (pair_exact n a b)
form_exact n (w ∷ a ∷ b ∷ c ∷ []) = when_exact (bytes_eq w (codes "agree")) n (agree_table n a b c) (agree_exact n a b c)
form_exact n (w ∷ a ∷ b ∷ c ∷ d ∷ []) =
    either_exact (bytes_eq w (codes "sig")) (sig_table n a b c d) (when (bytes_eq w (codes "unwrap")) n (unwrap_table n a b c d)) (sig_exact n a b c d)
    (when_exact (bytes_eq w (codes "unwrap")) n (unwrap_table n a b c d) (unwrap_exact n a b c d))
form_exact n (w ∷ a ∷ b ∷ c ∷ d ∷ e ∷ fs) = refused_exact (BadLine n)

pub row_exact : (before : List Line) (text : List ℕ) → Exact (row before text)
unfolding row
row_exact before text = then_exact _ _ (form_exact (length before + 1) (fields_in text))
    (λ line. then_exact _ _ (need_exact _ _) (λ _. then_exact _ _ (need_exact _ _) (λ _. done_exact _)))

rows_exact : {A X F : Type 0} (each : List X → A → Table X F) → ((before : List X) (item : A) → Exact (each before item)) → (before : List X) (items : List A) → Exact (each_after each before items)
unfolding each_after
rows_exact each exact before [] = done_exact before
rows_exact each exact before (item ∷ items) = then_exact (each before item) (λ x. each_after each (before ++ x ∷ []) items) (exact before item) (λ x. rows_exact each exact (before ++ x ∷ []) items)

left_exact : (left : List ℕ) (lines : List Line) → Exact (left_table left lines)
unfolding left_table
left_exact left lines = then_exact _ _ (need_exact _ _) (λ _. done_exact _)

pub records_exact : (doc : List ℕ) → Exact (records_table doc)
unfolding records_table
records_exact doc = then_exact (each_after row [] (lines_in doc)) (left_table (left_in doc)) (rows_exact row row_exact [] (lines_in doc)) (left_exact (left_in doc))
