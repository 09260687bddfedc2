use Rattle.std.proofs.Common.{inl, inr, refl, ap, ◌∙◌, rules, Result, Err}
use Rattle.picky_gate.specs.declared.documents.Document.{Document}
use Rattle.picky_gate.specs.declared.documents.Documents.{Documents}
use Rattle.picky_gate.specs.declared.program.Unfetched.{Unfetched}
use Rattle.picky_gate.specs.Asked.{admit_of, generate_of}
use Rattle.picky_gate.specs.Command.{IsAdmit, IsGenerate, admit}
use Rattle.picky_outside.specs.Outside.{texts_of}
use Rattle.picky_gate.specs.Reply.{generated, unread, reply_text}
use Rattle.picky_gate.proofs.Fetching.{all_paths}
use Rattle.picky_gate.proofs.Delivery.{same_text, is_reply}
use Rattle.picky_gate.proofs.program.perform.Goals as goal

pub returns-in-Ok-clause-replies : goal.returns-in-Ok-clause-replies
returns-in-Ok-clause-replies g c =
    let said = c.in-Ok.ensures in
    let command : IsGenerate (texts_of c.args.words.now) (generate_of c.in-Some-Generate.command) = search rules in
    inr (
      generated (generate_of c.in-Some-Generate.command) said.0,
      record { is_command = command; asked = refl; counted = said.1 },
      same_text _ _ _ _ _ _ _ _ (c.as_bytes.ensures.value ∙ said.2) refl c.finish.ensures.delivers,
    )

pub returns-in-Err-Failed-clause-replies : goal.returns-in-Err-Failed-clause-replies
returns-in-Err-Failed-clause-replies g c =
    let command : IsAdmit (texts_of c.args.words.now) (admit_of c.in-Some-Admit.command) = search rules in
    inr (
      unread c.in-Err-Failed.document,
      record {
        command = admit_of c.in-Some-Admit.command;
        is_command = command;
        asked = c.in-Err-Failed.ensures.asks.failed c.in-Err-Failed.document (ap (λ (u : Unfetched). let r : Result Documents Unfetched = Err u in r) c.in-Err-Failed.field-0-is);
        failed = search rules;
      },
      same_text _ _ _ _ _ _ _ _ (c.unread_line.ensures ∙ ap (λ (d : Document). reply_text (unread d)) c.in-Err-Failed.document-is) refl c.finish-in-Err-Failed.ensures.delivers,
    )

pub returns-in-Ok-answer-clause-replies : goal.returns-in-Ok-answer-clause-replies
returns-in-Ok-answer-clause-replies g c =
    let said = c.in-Ok-answer.ensures in
    let command : IsAdmit (texts_of c.args.words.now) (admit_of c.in-Some-Admit.command) = search rules in
    inr (
      said.reply,
      is_reply _ (admit_of c.in-Some-Admit.command) _ said.reply command c.in-Ok-fetch_documents.ensures.asks.fetched c.in-Ok-fetch_documents.ensures.bytes said.is,
      same_text _ _ _ _ _ _ _ _ (c.as_bytes-in-Ok-answer.ensures.value ∙ said.text) said.status c.finish-in-Ok-answer.ensures.delivers,
    )

pub returns-clause-replies : goal.returns-clause-replies
returns-clause-replies g c =
    let command : IsAdmit (texts_of c.args.words.now) (admit_of c.in-Some-Admit.command) = search rules in
    inl (record {
      five = refl;
      nothing = refl;
      command = admit (admit_of c.in-Some-Admit.command);
      is_command = command;
      asked = (3, rw (all_paths (admit_of c.in-Some-Admit.command)) c.in-Ok-fetch_documents.ensures.asks.fetched);
    })
