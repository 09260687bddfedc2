use Rattle.std.proofs.Common.{sym, ◌∙◌, string_bytes}
use Rattle.serde_json.specs.View.{view}
use Rattle.picky_jose.specs.Refusals.{header_table}
use Rattle.picky_jose.proofs.encode.header_text.Goals as goal

pub returns-clause-reads_back : goal.returns-clause-reads_back
unfolding header_table
returns-clause-reads_back c =
    let spelled = rw c.as_bytes.ensures.value at c.in_ok-encode.ensures in
    let free = sym c.has_float.ensures ∙ c.if-has_float.false in
    let tells = rw c.in-Some.is at c.in_ok-tree.ensures.tells in
    (string_bytes c.in_ok-text.text, spelled, (view c.in-Some.tree, c.in_ok-text.ensures.reads_back, (tt, free, tells)))
