use Rattle.std.proofs.Common.{◌≡◌, length, ◌+◌, ◌-◌, ◌*◌, ◌≤◌}
use Rattle.picky_asn1_wrapper.specs.Lists.{items_at}
use Rattle.picky_asn1_wrapper.specs.laws.Loops.{after}
use Rattle.picky_levels.specs.Nests.{nest_form}
use Rattle.picky_levels.proofs.reading.+read.Given as goal

abbrev pub decreases-read_items : goal.decreases-read_items
decreases-read_items g l = 4 * l.levels + 1

abbrev pub decreases-read_contents : goal.decreases-read_contents
decreases-read_contents g l = 4 * l.levels + 2

abbrev pub decreases-read_fields : goal.decreases-read_fields
decreases-read_fields g l = 4 * l.levels + 3

abbrev pub decreases-read_levels : goal.decreases-read_levels
decreases-read_levels g l = 4 * l.levels

abbrev pub invariant-read_items-loop-alloc : goal.invariant-read_items-loop-alloc
invariant-read_items-loop-alloc g l =
    let read = (nest_form g.T.DerNested.nest l.levels).reading l.fn.reader.depth in
    let most = length l.fn.reader.left in
    (after l.items.items (items_at read (most - length l.items.items) l.reader.left) ≡ items_at read most l.fn.reader.left)
    × (l.reader.depth ≡ l.fn.reader.depth)
    × (length l.reader.left + length l.items.items ≤ most)

abbrev pub decreases-read_items-loop-alloc : goal.decreases-read_items-loop-alloc
decreases-read_items-loop-alloc g l = length l.reader.left
