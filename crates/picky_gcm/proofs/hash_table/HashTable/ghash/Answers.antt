use Rattle.std.proofs.Common.{ap, sym, length, ◌*◌, ◌∙◌}
use Rattle.picky_gcm.specs.Polynomial.{plus}
use Rattle.picky_gcm.specs.Table.{pair_block}
use Rattle.picky_gcm.proofs.Digits.{block-pair, pair-bytes}
use Rattle.picky_gcm.proofs.Hashing.{hash-is}
use Rattle.picky_gcm.proofs.PairSteps.{pair-zero}
use Rattle.picky_gcm.proofs.hash_table.HashTable.ghash.Goals as goal

pub returns : goal.returns
returns c =
    hash-is c.args.self.now c.args.aad.now c.args.text.now c.bytes_of.result (pair_block (0, 0)) (pair_block c.hashed_on-of_aad.result) (pair_block c.hashed_on-of_both.result) (pair_block c.add.result) (pair_block c.multiply.result)
    pair-zero c.hashed_on-of_aad.ensures c.hashed_on-of_both.ensures
    (c.add.ensures ∙ ap (plus (pair_block c.hashed_on-of_both.result)) (sym (block-pair (8 * length c.args.aad.now, 8 * length c.args.text.now))))
    c.multiply.ensures (c.bytes_of.ensures ∙ pair-bytes c.multiply.result)
