use Rattle.std.proofs.Common.{◌≡◌, take}
use Rattle.picky_x509_safe_bags.proofs.safe_bag.+copy.Given as goal

abbrev pub invariant-copy_bags-loop-bag : goal.invariant-copy_bags-loop-bag
invariant-copy_bags-loop-bag l = l.copies.items ≡ take l.bag-index l.bags
