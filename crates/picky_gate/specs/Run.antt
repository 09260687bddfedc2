-- What a run saw: its words, its status, and what the cabinet and the sink tell before and after it (own).
use Rattle.std.specs.Prelude.{ℕ, List, [], ◌∷◌, Option, Some, None}
use Rattle.picky_contract.specs.Causes.{Rose}
use Rattle.picky_gate.specs.declared.documents.Document.{Document}
use Rattle.picky_gate.specs.declared.documents.Document.TheVariants.{Keys, Records, Request}
use Rattle.picky_gate.specs.Command.{Text, Admit}
use Rattle.picky_outside.specs.Outside.{Adds}

-- what something was before the run and is after it
pub record Change (X : Type 0) : Type 0 where
  pub before : X
  pub after : X

-- what a cabinet tells of a path
abbrev pub Contents : Type 0
Contents = Text → Option (List ℕ)

-- The words and the status; the content under each path, the paths that the cabinet was asked for, and how often a
-- fetch has failed; the bytes that the sink was written, how often a write has failed, and its room before the run.
pub record Run : Type 0 where
  pub words : List Text
  pub status : ℕ
  pub content : Contents
  pub asked : Change (Option (List Text))
  pub fetch_faults : Change ℕ
  pub written : Change (Option (List ℕ))
  pub write_faults : Change ℕ
  pub room : ℕ

-- a fetch of the run failed, by the cabinet's count
abbrev pub FetchFailed : Run → Type 0
FetchFailed run = Rose run.fetch_faults.before run.fetch_faults.after

-- a write of the run failed, by the sink's count
abbrev pub WriteFailed : Run → Type 0
WriteFailed run = Rose run.write_faults.before run.write_faults.after

-- just these paths were asked for, in this order
abbrev pub Asked : Run → List Text → Type 0
Asked run paths = Adds run.asked.before paths run.asked.after

-- just these bytes were written
abbrev pub Wrote : Run → List ℕ → Type 0
Wrote run bytes = Adds run.written.before bytes run.written.after

-- a path that may be absent
abbrev pub given : Option Text → List Text
given None = []
given (Some path) = path ∷ []

-- the paths of a command's documents, in the order in which they are fetched
abbrev pub paths_of : Admit → List Text
paths_of c = c.keys ∷ c.records ∷ given c.request

-- those up to a document's
abbrev pub paths_to : Document → Admit → List Text
paths_to Keys c = c.keys ∷ []
paths_to Records c = c.keys ∷ c.records ∷ []
paths_to Request c = paths_of c
