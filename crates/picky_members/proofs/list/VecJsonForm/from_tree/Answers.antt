use Rattle.std.proofs.Common.{◌≡◌, sym, ◌∙◌, refl}
use Rattle.serde_json.specs.Data.{array}
use Rattle.serde_json.specs.View.{view, items_view}
use Rattle.picky_members.specs.laws.Lists.{array_form, told_more, told_all, item_none}
use Rattle.picky_members.specs.laws.Stops.{stops}
use Rattle.picky_members.proofs.list.VecJsonForm.from_tree.Goals as goal

pub returns-in_err-from_tree : goal.returns-in_err-from_tree
returns-in_err-from_tree g c =
    let form : view c.args.tree.now ≡ array (items_view c.deref-item-items.result.now) = array_form _ _ (sym c.as_array.ensures ∙ rw (c.in-Some.is, c.deref-item-items.ensures.value) refl) in
    let none = item_none g.T.JsonForm.Tells view _ _ _ _ _ form c.loop-item-test.true c.item-item.is c.in_err-from_tree.ensures in
    stops _ _ _ _ _ c.from_residual.ensures.1 none (λ y q. (y, q))

pub returns : goal.returns
returns g c =
    let form : view c.args.tree.now ≡ array (items_view c.in-Some.items.now.items) = array_form _ _ (sym c.as_array.ensures ∙ rw c.in-Some.is refl) in
    record { items = _; form = form; each = rw c.deref-item-items.ensures.value at (told_all g.T.JsonForm.Tells view _ _ _ c.loop-item-test.false c.loop-item.invariant) }

pub loop-item-preserved : goal.loop-item-preserved
loop-item-preserved g c =
    told_more g.T.JsonForm.Tells view g.T.JsonForm.stands_for _ _ _ _ _ _ c.loop-item-test.true c.item-item.is c.loop-item.invariant c.in_ok-from_tree.ensures c.in_ok-push.ensures.items
