use Rattle.picky_gcm.specs.Polynomial.{block_of}
use Rattle.picky_gcm.proofs.Products.{moved-is, table-under}
use Rattle.picky_gcm.proofs.hash_table.HashTable.moved.Goals as goal

pub returns : goal.returns
returns c =
    moved-is (block_of c.args.self.now) c.self.inside.entries c.times_x4.result c.times_x4-2.result c.times_x4-3.result c.times_x4-4.result c.times_x4-5.result c.times_x4-6.result c.times_x4-7.result c.times_x4-8.result
    c.times_x4-9.result c.times_x4-10.result c.times_x4-11.result c.times_x4-12.result c.times_x4-13.result c.times_x4-14.result c.times_x4-15.result c.times_x4-16.result
    (table-under c.args.self.now c.self.inside.entries c.self.view_is c.self.invariant)
    c.times_x4.ensures c.times_x4-2.ensures c.times_x4-3.ensures c.times_x4-4.ensures c.times_x4-5.ensures c.times_x4-6.ensures c.times_x4-7.ensures c.times_x4-8.ensures
    c.times_x4-9.ensures c.times_x4-10.ensures c.times_x4-11.ensures c.times_x4-12.ensures c.times_x4-13.ensures c.times_x4-14.ensures c.times_x4-15.ensures c.times_x4-16.ensures
