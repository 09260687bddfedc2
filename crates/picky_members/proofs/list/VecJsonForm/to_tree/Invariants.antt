use Rattle.std.proofs.Common.{◌≡◌, take, map}
use Rattle.serde_json.specs.View.{view}
use Rattle.picky_members.proofs.list.VecJsonForm.to_tree.Given as goal

-- the trees so far are those of the values so far
abbrev pub invariant-loop-value : goal.invariant-loop-value
invariant-loop-value g l = map view l.items.items ≡ map (λ v. g.T.JsonForm.tree_of (g.T.JsonForm.stands_for v)) (take l.value-index l.value-items)
