use Rattle.std.proofs.Common.{[], ◌++◌, ◌∙◌}
use Rattle.picky_gcm.specs.Polynomial.{block_of, coefficients}
use Rattle.picky_gcm.proofs.Products.{product-begins, product-halves}
use Rattle.picky_gcm.proofs.hash_table.HashTable.multiply.Goals as goal

pub returns : goal.returns
returns c =
    c.times_half-2.ensures (coefficients 64 c.args.block.1 ++ [])
    (c.times_half.ensures [] (product-begins (block_of c.args.self.now)))
    ∙ product-halves c.args.block.0 c.args.block.1 (block_of c.args.self.now)
