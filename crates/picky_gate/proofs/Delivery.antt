-- What was said and written.
use Rattle.std.proofs.Common.{◌≡◌, ℕ, List, Option, Some, None, IfSome, subst}
use Rattle.std.specs.Prelude.{IsSomeAnd}
use Rattle.picky_gate.specs.declared.documents.Documents.{Documents}
use Rattle.picky_gate.specs.Command.{Admit, IsAdmit}
use Rattle.picky_gate.specs.Documents.{decision}
use Rattle.picky_gate.specs.Faults.{Why}
use Rattle.picky_gate.specs.Lines.{why_status, why_text}
use Rattle.picky_gate.specs.Reply.{AreFetched, Reply, usage, unread, admitted, failed, generated, ComesTo, IsReply, Delivers, Said}
use Rattle.picky_gate.specs.Run.{Run, Asked, paths_of}

-- two names of one text and of one status
pub same_text : (text named : List ℕ) (code status_named room : ℕ) (before after : Option (List ℕ)) (status : ℕ) → text ≡ named → code ≡ status_named → Delivers text code room before after status → Delivers named status_named room before after status
same_text text named code status_named room before after status is is_code delivered =
    subst (λ (t : List ℕ). Delivers t status_named room before after status) is (subst (λ (n : ℕ). Delivers text n room before after status) is_code delivered)

-- a fault that isn't want of memory, and its line
pub said_fault : (c : Admit) (docs : Documents) (o : Option Why) (code : ℕ) (bytes : List ℕ) → IfSome o (decision c docs).refuses → IsSomeAnd o (λ why. (code ≡ why_status why) × (bytes ≡ why_text why)) → Said c docs code bytes
said_fault c docs None code bytes due none = absurd none
said_fault c docs (Some why) code bytes due line = record { reply = failed why; is = due; status = line.0; text = line.1 }

-- what the command comes to is a reply
pub is_reply : (run : Run) (c : Admit) (docs : Documents) (reply : Reply) → IsAdmit run.words c → Asked run (paths_of c) → AreFetched run.content c docs → ComesTo c docs reply → IsReply run reply
is_reply run c docs usage is asked fetched none = absurd none
is_reply run c docs (unread document) is asked fetched none = absurd none
is_reply run c docs (admitted a) is asked fetched comes = record { command = c; docs = docs; is_command = is; asked = asked; fetched = fetched; comes_to = comes }
is_reply run c docs (failed why) is asked fetched comes = record { command = c; docs = docs; is_command = is; asked = asked; fetched = fetched; comes_to = comes }
is_reply run c docs (generated g n) is asked fetched none = absurd none
