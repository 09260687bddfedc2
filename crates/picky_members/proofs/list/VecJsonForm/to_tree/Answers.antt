use Rattle.std.proofs.Common.{sym, ap, ◌∙◌}
use Rattle.std.proofs.lemmas.Simd.{map-map}
use Rattle.serde_json.specs.Data.{array}
use Rattle.serde_json.specs.View.{view, items_of}
use Rattle.serde_json.proofs.Views.{view-Array}
use Rattle.picky_members.specs.laws.Lists.{map_all}
use Rattle.picky_members.proofs.list.VecJsonForm.to_tree.Goals as goal

pub returns : goal.returns
returns g c =
    let all = map_all view (λ v. g.T.JsonForm.tree_of (g.T.JsonForm.stands_for v)) _ _ _ c.loop-value-test.false c.loop-value.invariant in
    view-Array _ ∙ ap (λ ds. array (items_of ds)) (rw c.deref-value-items.ensures.value at all ∙ sym (map-map g.T.JsonForm.tree_of g.T.JsonForm.stands_for _))
