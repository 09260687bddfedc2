use Rattle.std.proofs.Common.{take}
use Rattle.picky_asn1_wrapper.specs.Lists.{SpellsAll}
use Rattle.picky_x509_safe_bags.specs.Bag.{safe_bag}
use Rattle.picky_x509_safe_bags.proofs.writing.+write.Given as goal

abbrev pub invariant-write_items-loop-bag : goal.invariant-write_items-loop-bag
invariant-write_items-loop-bag l = SpellsAll safe_bag.Encodes l.out.items (take l.bag-index l.bags)
