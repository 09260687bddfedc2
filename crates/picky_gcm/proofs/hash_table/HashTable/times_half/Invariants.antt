use Rattle.std.proofs.Common.{◌≡◌, ◌*◌, ◌++◌, List}
use Rattle.std.specs.Prelude.{Bool}
use Rattle.picky_gcm.specs.Polynomial.{Mul, block_of, coefficients}
use Rattle.picky_gcm.specs.Table.{pair_block}
use Rattle.picky_gcm.proofs.hash_table.HashTable.times_half.Given as goal

abbrev pub invariant-loop-i : goal.invariant-loop-i
invariant-loop-i l =
    (p : List Bool) → pair_block l.fn.after ≡ Mul p (block_of l.self) → pair_block l.product ≡ Mul (coefficients (8 * l.i) l.half ++ p) (block_of l.self)
