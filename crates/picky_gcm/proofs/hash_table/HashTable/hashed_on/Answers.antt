use Rattle.std.proofs.Common.{arith, ap, sym, ◌∙◌}
use Rattle.picky_gcm.specs.Polynomial.{block_of}
use Rattle.picky_gcm.specs.Table.{pair_block}
use Rattle.picky_gcm.proofs.Digits.{block-pair}
use Rattle.picky_gcm.proofs.Hashing.{Ghash_from-none, hashed-all, hashed-more}
use Rattle.picky_gcm.proofs.hash_table.HashTable.hashed_on.Goals as goal

pub loop-k-init : goal.loop-k-init
loop-k-init c = Ghash_from-none (block_of c.args.self.now) (pair_block c.args.before)

pub loop-k-preserved : goal.loop-k-preserved
loop-k-preserved c =
    hashed-more (block_of c.args.self.now) (pair_block c.args.before) c.args.bytes.now c.loop-k.k (pair_block c.loop-k.hash) (pair_block c.pair_of.result) (pair_block c.add.result) (pair_block c.multiply-hash.result)
    c.loop-k.invariant (sym (block-pair c.pair_of.result) ∙ ap block_of (c.pair_of.ensures ∙ c.padded_block.ensures)) c.add.ensures c.multiply-hash.ensures

pub returns : goal.returns
returns c =
    hashed-all (block_of c.args.self.now) (pair_block c.args.before) c.args.bytes.now c.loop-k.k (pair_block c.loop-k.hash) (omega arith) c.loop-k.invariant
