-- The sentence about the program (own): over documents that the cabinet tells, with no failure, the
-- status is 0 with the two lines exactly where the text is admissible, and otherwise the code is that
-- of the first condition that fails; and a command `generate` ends with status 0 and the line of how many of its
-- texts are admissible. Want of memory is free.
use Rattle.std.specs.Prelude.{◌≡◌, ◌⊎◌, ◌≤◌, ℕ, List, length, Option, Some, None}
use Rattle.picky_gate.specs.declared.documents.Documents.{Documents}
use Rattle.picky_gate.specs.Admissible.{Admission}
use Rattle.picky_gate.specs.Command.{Admit, IsAdmit, Generate, IsGenerate}
use Rattle.picky_gate.specs.Documents.{decision, IsAdmissible}
use Rattle.picky_gate.specs.Faults.{Why}
use Rattle.picky_gate.specs.Generated.{Counts}
use Rattle.picky_gate.specs.Lines.{admitted_text, generated_text, why_status, why_text}
use Rattle.picky_gate.specs.Run.{Run, FetchFailed, WriteFailed, Wrote}

-- the cabinet tells the document, where there is a path
abbrev pub TellsIf : Run → Option (List ℕ) → Option (List ℕ) → Type 0
TellsIf run None None = Unit {0}
TellsIf run (Some path) (Some doc) = run.content path ≡ Some doc
TellsIf run _ _ = ⊥

-- the words are this command `admit`, and the cabinet tells its documents
pub record Tells (run : Run) (c : Admit) (docs : Documents) : Type 0 where
  pub command : IsAdmit run.words c
  pub keys : run.content c.keys ≡ Some docs.keys
  pub records : run.content c.records ≡ Some docs.records
  pub request : TellsIf run c.request docs.request

-- no write failed, or none can: the sink has room for the text
abbrev pub IsTaken : Run → List ℕ → Type 0
IsTaken run text = (¬ (WriteFailed run)) ⊎ (length text ≤ run.room)

-- this status and the whole text, unless memory ran out and nothing was written
abbrev pub Says : Run → ℕ → List ℕ → Type 0
Says run code text =
    ((run.status ≡ code) × Wrote run text)
    ⊎ ((run.status ≡ 5) × (run.written.after ≡ run.written.before))

pub record Headline (run : Run) : Type 0 where
  -- an admissible text is admitted, and its lines are printed
  pub admits : (c : Admit) (docs : Documents) → Tells run c docs → ¬ (FetchFailed run)
      → (a : Admission) → IsAdmissible c docs a → IsTaken run (admitted_text a) → Says run 0 (admitted_text a)
  -- else the first condition that fails is said
  pub refuses : (c : Admit) (docs : Documents) → Tells run c docs → ¬ (FetchFailed run)
      → (why : Why) → (decision c docs).refuses why → IsTaken run (why_text why) → Says run (why_status why) (why_text why)
  -- status 0 comes only where the text is admissible, with its lines
  pub only_admissible : (c : Admit) (docs : Documents) → Tells run c docs → run.status ≡ 0
      → (a : Admission) × IsAdmissible c docs a × Wrote run (admitted_text a)
  -- status 1 or 4 comes only with the first condition that fails
  pub only_first : (c : Admit) (docs : Documents) → Tells run c docs → (run.status ≡ 1) ⊎ (run.status ≡ 4)
      → (why : Why) × (decision c docs).refuses why × (run.status ≡ why_status why) × Wrote run (why_text why)
  -- the texts of a command `generate` are made and counted, and the line is printed
  pub counts : (g : Generate) → IsGenerate run.words g
      → (a : ℕ) → Counts g.seed g.count a → IsTaken run (generated_text g.count a) → Says run 0 (generated_text g.count a)
  -- its status is 0, 5 or 6
  pub only_counts : (g : Generate) → IsGenerate run.words g → (run.status ≡ 0) ⊎ (run.status ≡ 5) ⊎ (run.status ≡ 6)
  -- 0 comes only with the line of how many of its texts are admissible
  pub only_counted : (g : Generate) → IsGenerate run.words g → run.status ≡ 0
      → (a : ℕ) × Counts g.seed g.count a × Wrote run (generated_text g.count a)
