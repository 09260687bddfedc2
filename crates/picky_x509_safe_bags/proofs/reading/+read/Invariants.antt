use Rattle.std.proofs.Common.{◌≡◌, length, ◌+◌, ◌-◌, ◌*◌, ◌≤◌}
use Rattle.picky_der.specs.declared.fault.DerError.{DerError}
use Rattle.picky_asn1_wrapper.specs.Lists.{items_at}
use Rattle.picky_asn1_wrapper.specs.laws.Loops.{after}
use Rattle.picky_x509_safe_bags.specs.Bag.{bag_within}
use Rattle.picky_x509_safe_bags.proofs.reading.+read.Given as goal

abbrev pub decreases-read_items : goal.decreases-read_items
decreases-read_items l = 6 * l.levels + 1

abbrev pub decreases-read_list : goal.decreases-read_list
decreases-read_list l = 6 * l.levels + 2

abbrev pub decreases-read_inner : goal.decreases-read_inner
decreases-read_inner l = 6 * l.levels + 3

abbrev pub decreases-read_kind : goal.decreases-read_kind
decreases-read_kind l = 6 * l.levels + 4

abbrev pub decreases-read_fields : goal.decreases-read_fields
decreases-read_fields l = 6 * l.levels + 5

abbrev pub decreases-read_bag : goal.decreases-read_bag
decreases-read_bag l = 6 * l.levels

abbrev pub invariant-read_items-loop-alloc : goal.invariant-read_items-loop-alloc
invariant-read_items-loop-alloc l =
    let most = length l.fn.reader.left in
    ((deep : DerError) → after l.bags.items (items_at ((bag_within deep l.levels).reading l.fn.reader.depth) (most - length l.bags.items) l.reader.left) ≡ items_at ((bag_within deep l.levels).reading l.fn.reader.depth) most l.fn.reader.left)
    × (l.reader.depth ≡ l.fn.reader.depth)
    × (length l.reader.left + length l.bags.items ≤ most)

abbrev pub decreases-read_items-loop-alloc : goal.decreases-read_items-loop-alloc
decreases-read_items-loop-alloc l = length l.reader.left
