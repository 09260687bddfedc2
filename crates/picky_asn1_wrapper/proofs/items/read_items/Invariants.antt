use Rattle.std.proofs.Common.{◌≡◌, length, ◌+◌, ◌-◌, ◌≤◌}
use Rattle.std.specs.Prelude.{map}
use Rattle.picky_asn1_wrapper.specs.Lists.{items_at}
use Rattle.picky_asn1_wrapper.specs.laws.Loops.{after}
use Rattle.picky_asn1_wrapper.proofs.items.read_items.Given as goal

abbrev pub invariant-loop-alloc : goal.invariant-loop-alloc
invariant-loop-alloc g l =
    let read = g.T.DerForm.form.reading l.fn.reader.depth in
    let so_far = map g.T.DerForm.stands_for l.items.items in
    let most = length l.fn.reader.left in
    (after so_far (items_at read (most - length so_far) l.reader.left) ≡ items_at read most l.fn.reader.left)
    × (l.reader.depth ≡ l.fn.reader.depth)
    × (length l.reader.left + length so_far ≤ most)

abbrev pub decreases-loop-alloc : goal.decreases-loop-alloc
decreases-loop-alloc g l = length l.reader.left
