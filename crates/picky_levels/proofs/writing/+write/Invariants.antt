use Rattle.std.proofs.Common.{take, ◌+◌, ◌*◌}
use Rattle.picky_asn1_wrapper.specs.Lists.{SpellsAll}
use Rattle.picky_levels.specs.Nests.{nest_form}
use Rattle.picky_levels.proofs.writing.+write.Given as goal

abbrev pub decreases-write_items : goal.decreases-write_items
decreases-write_items g l = 4 * l.levels + 1

abbrev pub decreases-write_contents : goal.decreases-write_contents
decreases-write_contents g l = 4 * l.levels + 2

abbrev pub decreases-write_held : goal.decreases-write_held
decreases-write_held g l = 4 * l.levels + 3

abbrev pub decreases-write_levels : goal.decreases-write_levels
decreases-write_levels g l = 4 * l.levels

abbrev pub invariant-write_items-loop-item : goal.invariant-write_items-loop-item
invariant-write_items-loop-item g l = SpellsAll (nest_form g.T.DerNested.nest l.levels).Encodes l.out.items (take l.item-index l.items)
