use Rattle.std.proofs.Common.{◌++◌, ◌∷◌, [], ◌+◌, drop, length, map, ap, ◌∙◌}
use Rattle.std.proofs.lemmas.Iterator.Splits.{YieldsList-from_lines}
use Rattle.std.proofs.lemmas.Iterator.Consumers.{YieldsList-so_far, YieldsList-turn, YieldsList-end}
use Rattle.std.specs.Str.Lines.{lines}
use Rattle.picky_http.specs.Content.{Content, content_of, with_entry}
use Rattle.picky_http.specs.Given.{entry_view}
use Rattle.picky_http.specs.laws.Given.{given_push}
use Rattle.picky_http.proofs.Entries.{line_at, listed_refuses, listed_gives, read_push}
use Rattle.picky_http.proofs.content.listed_content.Goals as goal

pub returns-in_default : goal.returns-in_default
returns-in_default c =
    let text = c.args.text.now in
    let road = YieldsList-from_lines text cc in
    let read = map (λ x. x.now) c.loop-line.yielded in
    let turn = YieldsList-turn road c.loop-line.yielded _ c.loop-line.yielded_by _ _ c.in-Some.line c.in-Some.is c.next.ensures.steps in
    let front = YieldsList-so_far road c.loop-line.yielded _ c.loop-line.yielded_by in
    let n = length c.loop-line.yielded in
    let none = rw c.in_default.is at c.in_ok-entry.ensures in
    listed_refuses text read (drop (n + 1) (lines text)) c.loop-line.invariant.0 c.in-Some.line.now _
    (line_at (lines text) read n c.in-Some.line.now turn.0 turn.1 front) c.loop-line.invariant.1 none c.in_ok-line.ensures.ok

pub loop-line-preserved : goal.loop-line-preserved
loop-line-preserved c =
    let es = c.loop-line.invariant.0 in
    let e = entry_view c.in-Some-2.entry in
    let found = rw c.in-Some-2.is at c.in_ok-entry.ensures in (
      es ++ e ∷ [],
      read_push (λ x. x.now) c.loop-line.yielded c.in-Some.line es e c.loop-line.invariant.1 found.0,
      c.in_ok-add.ensures ∙ ap (λ (x : Content). with_entry x e) c.loop-line.invariant.2 ∙ given_push c.args.text.now es e,
    )

pub returns : goal.returns
returns c =
    let text = c.args.text.now in
    let end = YieldsList-end (YieldsList-from_lines text cc) c.loop-line.yielded _ c.loop-line.yielded_by _ _ c.in-None.is c.next.ensures.steps in
    listed_gives text (map (λ x. x.now) c.loop-line.yielded) c.loop-line.invariant.0 (content_of c.loop-line.content) end.0 c.loop-line.invariant.1 c.loop-line.invariant.2
