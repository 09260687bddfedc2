use Rattle.std.proofs.Common.{sym, ap, ◌∙◌, refl, List, ℕ, length}
use Rattle.std.specs.Prelude.{Err}
use Rattle.std.specs.Str.{trim}
use Rattle.std.proofs.lemmas.Iterator.Consumers.{YieldsList-turn, YieldsList-end, YieldsList-from_first}
use Rattle.http_header.specs.HeaderMap.{get_all}
use Rattle.http_header.specs.Token.{lowercase}
use Rattle.picky_http_request.specs.Answers.{not_text}
use Rattle.picky_http_request.proofs.Visible.{texts_push, trims_push, visible, not_visible, bad_value, all_bytes}
use Rattle.std.proofs.lemmas.Bool.{false≢true}
use Rattle.picky_http_request.proofs.parts.values.Goals as goal

pub loop-value-preserved : goal.loop-value-preserved
loop-value-preserved c = record {
  texts = texts_push (λ v. v.now.bytes) c.loop-value.yielded c.in-Some.value c.loop-value.invariant.texts (visible c.in-Some.value.now.bytes (c.in-Ok.ensures.succeeds.0 refl));
  trimmed = trims_push (λ v. v.now.bytes) (λ t. t.now) c.loop-value.yielded c.in-Some.value c.loop-value.found.items c.push.new.self.items c.trim.result c.loop-value.invariant.trimmed (c.trim.ensures.trim ∙ ap trim c.in-Ok.ensures.ok) c.in_ok-push-in-Ok.ensures.items;
}

pub returns-in-Err-clause-err : goal.returns-in-Err-clause-err
returns-in-Err-clause-err c =
    let all = get_all c.args.headers.now (lowercase c.args.name.now) in
    let first = YieldsList-from_first (λ x. x.now) (λ it. it) all (c.into_iter-value-iterator.ensures.into_iter_gives ∙ c.get_all-value-items.ensures.value) in
    let turn = YieldsList-turn first c.loop-value.yielded _ c.loop-value.yielded_by _ _ c.in-Some.value c.in-Some.is c.next.ensures.steps in
    bad_value c.args.name.now all (length c.loop-value.yielded) c.in-Some.value.now turn.0 turn.1 (not_visible c.in-Some.value.now.bytes (λ h. false≢true (c.in-Err.ensures.succeeds.1 h))) ∙ ap (λ (b : List ℕ). Err (not_text b)) (sym c.in_ok-from_str-in-Err.ensures.ok)

pub returns-clause-ok : goal.returns-clause-ok
returns-clause-ok c =
    let all = get_all c.args.headers.now (lowercase c.args.name.now) in
    let end = YieldsList-end (YieldsList-from_first (λ x. x.now) (λ it. it) all (c.into_iter-value-iterator.ensures.into_iter_gives ∙ c.get_all-value-items.ensures.value)) c.loop-value.yielded _ c.loop-value.yielded_by _ _ c.in-None.is c.next.ensures.steps in
    let same = all_bytes c.loop-value.yielded all end.0 in
    (rw same at c.loop-value.invariant.texts, rw same at c.loop-value.invariant.trimmed)
