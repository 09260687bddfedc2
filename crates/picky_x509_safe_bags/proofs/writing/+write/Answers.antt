use Rattle.std.proofs.Common.{inl, inr}
use Rattle.std.proofs.lemmas.Result.{err_from_is_err_and}
use Rattle.picky_x509_safe_bags.specs.Bag.{safe_bag}
use Rattle.picky_x509_safe_bags.proofs.Items.{items_next, refused_at}
use Rattle.picky_x509_safe_bags.proofs.writing.+write.Goals as goal

pub write_items-returns-in_err-write_bag-clause-err : goal.write_items-returns-in_err-write_bag-clause-err
write_items-returns-in_err-write_bag-clause-err t c =
    let p = err_from_is_err_and c.from_residual.result c.from_residual.ensures.1 in
    rw (p.1, p.2) (elim c.in_err-write_bag.ensures.0 [
      | inl e ↦ inl e
      | inr e ↦ inr (e.0, refused_at safe_bag.Refused c.args.bags.now c.loop-bag.bag-index c.bag-item.result c.loop-bag-test.true c.bag-item.is e.1)
    ])

pub write_items-loop-bag-preserved : goal.write_items-loop-bag-preserved
write_items-loop-bag-preserved t c =
    let a = c.in_ok-write_bag.ensures in
    items_next safe_bag.Encodes c.args.bags.now c.loop-bag.bag-index c.bag-item.result c.loop-bag.out.items a.encoding c.write_bag.new.out.items c.loop-bag-test.true c.bag-item.is c.loop-bag.invariant a.encoded a.new_is
