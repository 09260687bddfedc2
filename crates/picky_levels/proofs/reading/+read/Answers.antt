use Rattle.std.proofs.Common.{rules, ◌≡◌, ◌≢◌, None, length, ◌-◌, [], ◌∙◌}
use Rattle.std.proofs.lemmas.Result.{err_from_is_err_and}
use Rattle.picky_der.specs.laws.Steps.{Fails-over}
use Rattle.picky_asn1_wrapper.specs.Lists.{items_at}
use Rattle.picky_asn1_wrapper.specs.laws.Loops.{stops, one_more, room_left}
use Rattle.picky_fields.specs.Levels.{one_level_more}
use Rattle.picky_levels.specs.Nests.{nest_form}
use Rattle.picky_levels.specs.laws.Nests.{nest_lawful}
use Rattle.picky_levels.proofs.reading.+read.Goals as goal

pub read_items-returns-in_err-item : goal.read_items-returns-in_err-item
read_items-returns-in_err-item g t c =
    let p = err_from_is_err_and c.from_residual.result c.from_residual.ensures.1 in
    let i = c.loop-alloc.invariant in
    let some : c.loop-alloc.reader.left ≢ [] = search rules in
    let read = (nest_form g.T.DerNested.nest c.args.levels).reading c.args.reader.now.depth in
    let n = length c.args.reader.now.left in
    let so_far = c.loop-alloc.items.items in
    let f = rw i.1 at c.in_err-item.ensures in
    rw (p.1, p.2) (Fails-over c.in_err-item.field-0.0 (read c.loop-alloc.reader.left) (items_at read n c.args.reader.now.left) f.0
    (λ d e. stops read so_far (items_at read n c.args.reader.now.left) (n - length so_far) c.loop-alloc.reader.left d some (room_left c.loop-alloc.reader.left (length so_far) n some i.2) e i.0))

pub read_items-loop-alloc-smaller : goal.read_items-loop-alloc-smaller
read_items-loop-alloc-smaller g t c =
    let a = rw c.in-Some.is at c.in_ok-item.ensures in
    (nest_lawful g.T.DerNested.nest g.met.T.DerNested.lawful c.args.levels).readable.shorter c.loop-alloc.reader.depth c.loop-alloc.reader.left c.in-Some.item c.read_levels.new.reader.left a.0

pub read_items-loop-alloc-preserved : goal.read_items-loop-alloc-preserved
read_items-loop-alloc-preserved g t c =
    let a = rw c.in-Some.is at c.in_ok-item.ensures in
    let i = c.loop-alloc.invariant in
    let some : c.loop-alloc.reader.left ≢ [] = search rules in
    let read = (nest_form g.T.DerNested.nest c.args.levels).reading c.args.reader.now.depth in
    let shorter = (nest_lawful g.T.DerNested.nest g.met.T.DerNested.lawful c.args.levels).readable.shorter c.loop-alloc.reader.depth c.loop-alloc.reader.left c.in-Some.item c.read_levels.new.reader.left a.0 in
    let n = length c.args.reader.now.left in
    let k = one_more read c.loop-alloc.items.items c.push.new.self.items c.in-Some.item n c.loop-alloc.reader.left c.read_levels.new.reader.left (items_at read n c.args.reader.now.left) some (rw i.1 at a.0) shorter c.in_ok-push.ensures.items i.2 i.0 in
    (k.0, a.1 ∙ i.1, k.1)

pub read_items-returns-in_default : goal.read_items-returns-in_default
read_items-returns-in_default g t c =
    let none : c.in_ok-item.field-0 ≡ None = search rules in
    let a = rw none at c.in_ok-item.ensures in
    let i = c.loop-alloc.invariant in
    let some : c.loop-alloc.reader.left ≢ [] = search rules in
    let read = (nest_form g.T.DerNested.nest c.args.levels).reading c.args.reader.now.depth in
    let n = length c.args.reader.now.left in
    let so_far = c.loop-alloc.items.items in
    stops read so_far (items_at read n c.args.reader.now.left) (n - length so_far) c.loop-alloc.reader.left one_level_more some (room_left c.loop-alloc.reader.left (length so_far) n some i.2) (rw i.1 at a.0) i.0
