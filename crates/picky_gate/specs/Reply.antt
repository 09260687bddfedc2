-- What the program says: its replies, their statuses and texts, and what is written of them (own).
use Rattle.std.specs.Prelude.{◌≡◌, ◌⊎◌, ◌<◌, ◌≤◌, ℕ, List, [], ◌∷◌, ◌++◌, length, take, codes, Option, Some, None, Result, OnOk, OnErr, IsErrOf}
use Rattle.picky_contract.specs.Causes.{Rose}
use Rattle.picky_gate.specs.declared.documents.Document.{Document}
use Rattle.picky_gate.specs.declared.documents.Document.TheVariants.{Request}
use Rattle.picky_gate.specs.declared.documents.Documents.{Documents}
use Rattle.picky_gate.specs.declared.program.Unfetched.{Unfetched}
use Rattle.picky_gate.specs.declared.program.Unfetched.TheVariants as unfetched
use Rattle.picky_gate.specs.Admissible.{Admission}
use Rattle.picky_gate.specs.Command.{Text, Admit, IsAdmit, Generate, IsGenerate, Command, admit, generate, IsCommand}
use Rattle.picky_gate.specs.Documents.{limit, decision}
use Rattle.picky_gate.specs.Faults.{Why}
use Rattle.picky_gate.specs.Generated.{Counts}
use Rattle.picky_gate.specs.Lines.{admitted_text, generated_text, document_text, why_status, why_text}
use Rattle.picky_outside.specs.Outside.{IsFetched, Adds}
use Rattle.picky_gate.specs.Run.{Contents, Run, FetchFailed, Asked, paths_of, paths_to}

-- a document that was asked for where there is a path
abbrev pub IsFetchedIf : Contents → Option Text → Option (List ℕ) → Type 0
IsFetchedIf content None None = Unit {0}
IsFetchedIf content (Some path) (Some bytes) = IsFetched (content path) limit bytes
IsFetchedIf content _ _ = ⊥

-- the documents that the fetches of a command bring
pub record AreFetched (content : Contents) (c : Admit) (docs : Documents) : Type 0 where
  pub keys : IsFetched (content c.keys) limit docs.keys
  pub records : IsFetched (content c.records) limit docs.records
  pub request : IsFetchedIf content c.request docs.request

-- a fetch of a document failed only where the count of faults rose, and every other answer leaves the count
pub record UnfetchedCause {T : Type 0} (before now : ℕ) (result : Result T Unfetched) : Type 0 where
  pub later : before ≤ now
  pub fetched : OnOk result (now ≡ before)
  pub memory : IsErrOf result unfetched.OutOfMemory → now ≡ before
  pub failed : (d : Document) → IsErrOf result (unfetched.Failed d) → Rose before now

-- The fetch of one document asked for its path, which is missing only where memory is wanting; and it says that
-- document where it failed.
pub record OneAsked {T : Type 0} (before : Option (List Text)) (path : Text) (document : Document) (now : Option (List Text)) (result : Result T Unfetched) : Type 0 where
  pub fetched : OnOk result (Adds before (path ∷ []) now)
  pub failed : (d : Document) → IsErrOf result (unfetched.Failed d) → (d ≡ document) × Adds before (path ∷ []) now
  pub memory : IsErrOf result unfetched.OutOfMemory → (now ≡ before) ⊎ Adds before (path ∷ []) now

-- The fetch of a document that may be absent asked for its path, where there is one; and it says the request where it failed.
abbrev pub OneAskedIf : {T : Type 0} → Option (List Text) → Option Text → Option (List Text) → Result T Unfetched → Type 0
OneAskedIf before None now result = OnOk result (now ≡ before) × OnErr result ⊥
OneAskedIf before (Some path) now result = OneAsked before path Request now result

-- The fetches of a command's documents asked for all their paths, for those up to the document that failed, or,
-- where memory is wanting, for a front of them.
pub record AllAsked {T : Type 0} (before : Option (List Text)) (c : Admit) (now : Option (List Text)) (result : Result T Unfetched) : Type 0 where
  pub fetched : OnOk result (Adds before (paths_of c) now)
  pub failed : (d : Document) → IsErrOf result (unfetched.Failed d) → Adds before (paths_to d c) now
  pub memory : IsErrOf result unfetched.OutOfMemory → (n : ℕ) × Adds before (take n (paths_of c)) now

-- what the program says: that the words are no command, that a document can't be read, what was
-- admitted, or why nothing was; or how many texts of a command `generate` are admissible
pub data Reply : Type 0 where
  usage : Reply
  unread : Document → Reply
  admitted : Admission → Reply
  failed : Why → Reply
  generated : Generate → ℕ → Reply

abbrev pub reply_status : Reply → ℕ
reply_status usage = 2
reply_status (unread document) = 3
reply_status (admitted a) = 0
reply_status (failed why) = why_status why
reply_status (generated g a) = 0

abbrev pub reply_text : Reply → List ℕ
reply_text usage = codes "usage\n"
reply_text (unread document) = codes "cannot read " ++ (document_text document ++ codes "\n")
reply_text (admitted a) = admitted_text a
reply_text (failed why) = why_text why
reply_text (generated g a) = generated_text g.count a

-- what a command `admit` comes to over its documents
abbrev pub ComesTo : Admit → Documents → Reply → Type 0
ComesTo c docs (admitted a) = (decision c docs).gives a
ComesTo c docs (failed why) = (decision c docs).refuses why
ComesTo c docs _ = ⊥

-- the status and the text are those of what the command comes to
pub record Said (c : Admit) (docs : Documents) (code : ℕ) (bytes : List ℕ) : Type 0 where
  pub reply : Reply
  pub is : ComesTo c docs reply
  pub status : code ≡ reply_status reply
  pub text : bytes ≡ reply_text reply

-- the command `admit` of the words, over the documents that were fetched, comes to this reply
pub record IsAnswer (run : Run) (reply : Reply) : Type 0 where
  pub command : Admit
  pub docs : Documents
  pub is_command : IsAdmit run.words command
  pub asked : Asked run (paths_of command)
  pub fetched : AreFetched run.content command docs
  pub comes_to : ComesTo command docs reply

-- the document of the command `admit` can't be read: a fetch failed, and its path is the last that was asked for
pub record IsUnread (run : Run) (document : Document) : Type 0 where
  pub command : Admit
  pub is_command : IsAdmit run.words command
  pub asked : Asked run (paths_to document command)
  pub failed : FetchFailed run

-- the words are no command, and nothing was asked for
pub record IsUsage (run : Run) : Type 0 where
  pub none : (c : Command) → ¬ (IsCommand run.words c)
  pub asked : run.asked.after ≡ run.asked.before

-- the words are this command `generate`, so many of whose texts are admissible, and nothing was asked for
pub record IsGenerated (run : Run) (g : Generate) (a : ℕ) : Type 0 where
  pub is_command : IsGenerate run.words g
  pub asked : run.asked.after ≡ run.asked.before
  pub counted : Counts g.seed g.count a

-- when the program says it
abbrev pub IsReply : Run → Reply → Type 0
IsReply run usage = IsUsage run
IsReply run (unread document) = IsUnread run document
IsReply run (admitted a) = IsAnswer run (admitted a)
IsReply run (failed why) = IsAnswer run (failed why)
IsReply run (generated g a) = IsGenerated run g a

-- What is written of a text into a sink with this room: all of it, with the text's status; or a front
-- of it, with status 6, where a write failed, which the room didn't suffice for.
abbrev pub Delivers : List ℕ → ℕ → ℕ → Option (List ℕ) → Option (List ℕ) → ℕ → Type 0
Delivers text code room before after status =
    ((status ≡ code) × Adds before text after)
    ⊎ ((status ≡ 6) × (room < length text) × ((n : ℕ) × (n < length text) × Adds before (take n text) after))

-- what a command has asked for where memory is wanting: a front of its paths, and nothing where it has none
abbrev pub AskedSome : Run → Command → Type 0
AskedSome run (admit c) = (n : ℕ) × Asked run (take n (paths_of c))
AskedSome run (generate g) = run.asked.after ≡ run.asked.before

-- the program wants memory for a command, and has written nothing
pub record WantsMemory (run : Run) : Type 0 where
  pub five : run.status ≡ 5
  pub nothing : run.written.after ≡ run.written.before
  pub command : Command
  pub is_command : IsCommand run.words command
  pub asked : AskedSome run command

-- the program says one reply, or wants memory
abbrev pub Replies : Run → Type 0
Replies run =
    WantsMemory run
    ⊎ ((reply : Reply) × IsReply run reply × Delivers (reply_text reply) (reply_status reply) run.room run.written.before run.written.after run.status)

-- a text with which the command may end with status 0
abbrev pub IsSuccess : Command → List ℕ → Type 0
IsSuccess (admit c) text = (a : Admission) × (text ≡ admitted_text a)
IsSuccess (generate g) text = (a : ℕ) × Counts g.seed g.count a × (text ≡ generated_text g.count a)
