use Rattle.std.proofs.Common.{ap, ◌∙◌}
use Rattle.picky_gcm.specs.Table.{pair_bytes}
use Rattle.picky_gcm.proofs.hash_table.HashTable.new.Goals as goal

pub returns : goal.returns
returns c = ap (λ p. pair_bytes p) c.products_of.ensures.key ∙ c.pair_of.ensures
