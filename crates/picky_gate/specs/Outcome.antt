-- What is promised of each run (own).
use Rattle.std.specs.Prelude.{◌≡◌, ◌≢◌, ◌⊎◌, ℕ, take}
use Rattle.picky_gate.specs.declared.documents.Document.{Document}
use Rattle.picky_gate.specs.Command.{Admit, IsAdmit}
use Rattle.picky_gate.specs.Headline.{Headline}
use Rattle.picky_gate.specs.Reply.{Replies, reply_text, unread}
use Rattle.picky_gate.specs.Run.{Run, FetchFailed, Asked, Wrote, paths_of, paths_to}

-- What a run asks its cabinet for: the paths of the documents of a command `admit`, in their order, and no other.
pub record Asks (run : Run) : Type 0 where
  -- a front of them
  pub front : (c : Admit) → IsAdmit run.words c → (n : ℕ) × Asked run (take n (paths_of c))
  -- all of them, where the text was judged or a document found bad
  pub answered : (c : Admit) → IsAdmit run.words c → (run.status ≡ 0) ⊎ (run.status ≡ 1) ⊎ (run.status ≡ 4) → Asked run (paths_of c)
  -- and where no fetch failed and no memory was wanting
  pub unfailed : (c : Admit) → IsAdmit run.words c → ¬ (FetchFailed run) → run.status ≢ 5 → Asked run (paths_of c)
  -- those up to the document that can't be read, where the status says so
  pub unread : (c : Admit) → IsAdmit run.words c → run.status ≡ 3 → (d : Document) × Asked run (paths_to d c) × Wrote run (reply_text (unread d))
  -- none for words that are no command `admit`
  pub nothing : ((c : Admit) → ¬ (IsAdmit run.words c)) → run.asked.after ≡ run.asked.before

pub record Outcome (run : Run) : Type 0 where
  -- what is written is one reply of these words over these contents, whole unless a write failed
  pub replies : Replies run
  -- what the cabinet was asked for
  pub asks : Asks run
  -- over documents that are told, with no failure, the status is 0, with its two lines, exactly where the text is
  -- admissible, otherwise the code is that of the first condition that fails; a command `generate` ends with status 0 and the
  -- line of how many of its texts are admissible; want of memory is free
  pub headline : Headline run
