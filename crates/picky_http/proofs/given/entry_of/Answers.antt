use Rattle.std.proofs.lemmas.Result.{IfOk-weaker}
use Rattle.picky_http.specs.Given.{entry_view}
use Rattle.picky_http.proofs.Entries.{found_entry}
use Rattle.picky_http.proofs.given.entry_of.Goals as goal

pub returns-in-Some : goal.returns-in-Some
returns-in-Some c =
    IfOk-weaker c.gives.result _ _ (λ o h. found_entry entry_view c.args.line.now (record { key = c.in-Some.key.now; value = c.in-Some.value.now }) o c.in-Some.ensures.0 h) c.gives.ensures

pub returns-in-None : goal.returns-in-None
returns-in-None c = λ e h. c.in-None.ensures h.keyed h.is_keyed
