use Rattle.std.proofs.Common.{◌≡◌, map}
use Rattle.std.specs.List.{range_with_len}
use Rattle.picky_gcm.specs.Hash.{Ghash_from}
use Rattle.picky_gcm.specs.Polynomial.{block_of}
use Rattle.picky_gcm.specs.Table.{pair_block}
use Rattle.picky_gcm.proofs.Hashing.{block_at}
use Rattle.picky_gcm.proofs.hash_table.HashTable.hashed_on.Given as goal

abbrev pub invariant-loop-k : goal.invariant-loop-k
invariant-loop-k l =
    pair_block l.hash ≡ Ghash_from (block_of l.self) (pair_block l.fn.before) (map (block_at l.bytes) (range_with_len 0 l.k))
