use Rattle.std.proofs.Common.{sym, ◌∙◌}
use Rattle.std.proofs.lemmas.Str.{IsUtf8-from_ascii}
use Rattle.picky_http_request.proofs.Fields.{text_is_ascii}
use Rattle.picky_http_request.proofs.head.text_of.Goals as goal

pub returns-in-Err-clause-none : goal.returns-in-Err-clause-none
returns-in-Err-clause-none c =
    absurd (c.in-Err.ensures.cases.0 (IsUtf8-from_ascii c.args.value.now (text_is_ascii c.args.value.now (sym c.are_text_bytes.ensures ∙ c.if-not-are_text_bytes.false))))
