use Rattle.std.proofs.Common.{rules, ◌≢◌, length, ◌-◌, [], ◌∙◌}
use Rattle.std.specs.Prelude.{map}
use Rattle.std.proofs.lemmas.Result.{err_from_is_err_and}
use Rattle.picky_der.specs.laws.Steps.{Fails-over}
use Rattle.picky_asn1_wrapper.specs.Lists.{items_at}
use Rattle.picky_asn1_wrapper.specs.laws.Loops.{stops, one_more, room_left, map-push}
use Rattle.picky_asn1_wrapper.proofs.items.read_items.Goals as goal

pub returns-in_err-read_der : goal.returns-in_err-read_der
returns-in_err-read_der g c =
    let p = err_from_is_err_and c.from_residual.result c.from_residual.ensures.1 in
    let i = c.loop-alloc.invariant in
    let some : c.loop-alloc.reader.left ≢ [] = search rules in
    let read = g.T.DerForm.form.reading c.args.reader.now.depth in
    let so_far = map g.T.DerForm.stands_for c.loop-alloc.items.items in
    let n = length c.args.reader.now.left in
    let f = rw i.1 at c.in_err-read_der.ensures in
    rw (p.1, p.2) (Fails-over c.in_err-read_der.field-0.0 (read c.loop-alloc.reader.left) (items_at read n c.args.reader.now.left) f.0
    (λ d e. stops read so_far _ (n - length so_far) c.loop-alloc.reader.left d some (room_left c.loop-alloc.reader.left (length so_far) n some i.2) e i.0))

pub loop-alloc-preserved : goal.loop-alloc-preserved
loop-alloc-preserved g c =
    let view = g.T.DerForm.stands_for in
    let a = c.in_ok-read_der.ensures in
    let i = c.loop-alloc.invariant in
    let some : c.loop-alloc.reader.left ≢ [] = search rules in
    let shorter = g.met.T.DerRead.readable.shorter c.loop-alloc.reader.depth c.loop-alloc.reader.left (view c.in_ok-read_der.field-0) c.read_der.new.reader.left a.0 in
    let k = one_more (g.T.DerForm.form.reading c.args.reader.now.depth) (map view c.loop-alloc.items.items) (map view c.push.new.self.items) (view c.in_ok-read_der.field-0) (length c.args.reader.now.left) c.loop-alloc.reader.left c.read_der.new.reader.left _ some (rw i.1 at a.0) shorter (map-push view c.loop-alloc.items.items c.push.new.self.items c.in_ok-read_der.field-0 c.in_ok-push.ensures.items) i.2 i.0 in
    (k.0, a.1 ∙ i.1, k.1)
