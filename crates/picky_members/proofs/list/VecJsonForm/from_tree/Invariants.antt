use Rattle.std.proofs.Common.{take, map}
use Rattle.std.specs.List.{AllZip}
use Rattle.serde_json.specs.View.{view}
use Rattle.picky_members.proofs.list.VecJsonForm.from_tree.Given as goal

-- the items so far tell the values so far
abbrev pub invariant-loop-item : goal.invariant-loop-item
invariant-loop-item g l = AllZip g.T.JsonForm.Tells (map view (take l.item-index l.item-items)) (map g.T.JsonForm.stands_for l.values.items)
