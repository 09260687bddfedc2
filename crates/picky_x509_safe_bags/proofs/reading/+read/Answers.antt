use Rattle.std.proofs.Common.{rules, ◌≡◌, ◌≢◌, None, length, ◌-◌, [], ◌∙◌}
use Rattle.std.proofs.lemmas.Result.{err_from_is_err_and}
use Rattle.picky_der.specs.declared.fault.DerError.{DerError}
use Rattle.picky_der.specs.declared.fault.DerError.TheVariants.{TooDeep}
use Rattle.picky_der.specs.laws.Steps.{Fails-over}
use Rattle.picky_asn1_wrapper.specs.Lists.{items_at}
use Rattle.picky_asn1_wrapper.specs.laws.Loops.{stops, one_more, room_left}
use Rattle.picky_x509_safe_bags.specs.Bag.{bag_within}
use Rattle.picky_x509_safe_bags.specs.laws.Levels.{within_lawful}
use Rattle.picky_x509_safe_bags.proofs.reading.+read.Goals as goal

pub read_items-returns-in_err-bag : goal.read_items-returns-in_err-bag
read_items-returns-in_err-bag t c =
    let p = err_from_is_err_and c.from_residual.result c.from_residual.ensures.1 in
    let i = c.loop-alloc.invariant in
    let some : c.loop-alloc.reader.left ≢ [] = search rules in
    let n = length c.args.reader.now.left in
    let so_far = c.loop-alloc.bags.items in
    let f = rw i.1 at c.in_err-bag.ensures in
    rw (p.1, p.2) (λ (deep : DerError).
    let read = (bag_within deep c.args.levels).reading c.args.reader.now.depth in
    Fails-over c.in_err-bag.field-0.0 (read c.loop-alloc.reader.left) (items_at read n c.args.reader.now.left) (f.0 deep)
    (λ d e. stops read so_far _ (n - length so_far) c.loop-alloc.reader.left d some (room_left c.loop-alloc.reader.left (length so_far) n some i.2) e (i.0 deep)))

pub read_items-loop-alloc-smaller : goal.read_items-loop-alloc-smaller
read_items-loop-alloc-smaller t c =
    let a = rw c.in-Some.is at c.in_ok-bag.ensures in
    (within_lawful TooDeep c.args.levels).readable.shorter c.loop-alloc.reader.depth c.loop-alloc.reader.left c.in-Some.bag c.read_bag.new.reader.left (a.0 TooDeep)

pub read_items-loop-alloc-preserved : goal.read_items-loop-alloc-preserved
read_items-loop-alloc-preserved t c =
    let a = rw c.in-Some.is at c.in_ok-bag.ensures in
    let i = c.loop-alloc.invariant in
    let some : c.loop-alloc.reader.left ≢ [] = search rules in
    let k = λ (deep : DerError).
    let read = (bag_within deep c.args.levels).reading c.args.reader.now.depth in
    let shorter = (within_lawful deep c.args.levels).readable.shorter c.loop-alloc.reader.depth c.loop-alloc.reader.left c.in-Some.bag c.read_bag.new.reader.left (a.0 deep) in
    one_more read c.loop-alloc.bags.items c.push.new.self.items c.in-Some.bag (length c.args.reader.now.left) c.loop-alloc.reader.left c.read_bag.new.reader.left _ some (rw i.1 at (a.0 deep)) shorter c.in_ok-push.ensures.items i.2 (i.0 deep) in
    ((λ (deep : DerError). (k deep).0), a.1 ∙ i.1, (k TooDeep).1)

pub read_items-returns-in_default : goal.read_items-returns-in_default
read_items-returns-in_default t c =
    let none : c.in_ok-bag.field-0 ≡ None = search rules in
    let a = rw none at c.in_ok-bag.ensures in
    let i = c.loop-alloc.invariant in
    let some : c.loop-alloc.reader.left ≢ [] = search rules in
    let n = length c.args.reader.now.left in
    let so_far = c.loop-alloc.bags.items in
    λ (deep : DerError).
    stops ((bag_within deep c.args.levels).reading c.args.reader.now.depth) so_far _ (n - length so_far) c.loop-alloc.reader.left deep some (room_left c.loop-alloc.reader.left (length so_far) n some i.2) (rw i.1 at (a.0 deep)) (i.0 deep)
