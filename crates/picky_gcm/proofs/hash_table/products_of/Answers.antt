use Rattle.std.proofs.Common.{refl}
use Rattle.picky_gcm.proofs.Products.{table-is}
use Rattle.picky_gcm.proofs.hash_table.products_of.Goals as goal

pub returns-clause-table : goal.returns-clause-table
returns-clause-table c =
    table-is c.args.key c.times_x-e1.result c.times_x-e2.result c.add-e3.result c.times_x-e4.result c.add-e5.result c.add-e6.result c.add-e7.result
    c.add-e9.result c.add-e10.result c.add-e11.result c.add-e12.result c.add-e13.result c.add-e14.result c.add-e15.result
    c.times_x-e4.ensures c.times_x-e2.ensures c.times_x-e1.ensures c.add-e3.ensures c.add-e5.ensures c.add-e6.ensures c.add-e7.ensures
    c.add-e9.ensures c.add-e10.ensures c.add-e11.ensures c.add-e12.ensures c.add-e13.ensures c.add-e14.ensures c.add-e15.ensures

pub returns-clause-key : goal.returns-clause-key
returns-clause-key c = refl
