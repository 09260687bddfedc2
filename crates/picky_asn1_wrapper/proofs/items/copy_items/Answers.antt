use Rattle.picky_asn1_wrapper.specs.laws.Loops.{map-next}
use Rattle.picky_asn1_wrapper.proofs.items.copy_items.Goals as goal

pub loop-item-preserved : goal.loop-item-preserved
loop-item-preserved g c =
    map-next g.T.Asn1Value.meaning c.args.items.now c.loop-item.copies.items c.push.new.self.items c.loop-item.item-index c.item-item.result c.in_ok-copy_in.field-0 c.loop-item-test.true c.item-item.is c.loop-item.invariant c.in_ok-copy_in.ensures c.in_ok-push.ensures.items
