use Rattle.picky_gcm.proofs.Products.{table-under}
use Rattle.picky_gcm.proofs.hash_table.HashTable.entries.Goals as goal

pub returns : goal.returns
returns c = table-under c.args.self.now c.self.inside.entries c.self.view_is c.self.invariant
