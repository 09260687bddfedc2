use Rattle.std.proofs.Common.{◌≡◌, take}
use Rattle.std.specs.Prelude.{map}
use Rattle.picky_asn1_wrapper.proofs.items.copy_items.Given as goal

abbrev pub invariant-loop-item : goal.invariant-loop-item
invariant-loop-item g l = map g.T.Asn1Value.meaning l.copies.items ≡ map g.T.Asn1Value.meaning (take l.item-index l.items)
