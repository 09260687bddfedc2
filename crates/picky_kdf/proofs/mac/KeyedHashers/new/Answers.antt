use Rattle.picky_kdf.proofs.Keys.{front-padded, holding_as}
use Rattle.picky_kdf.proofs.mac.KeyedHashers.new.Goals as goal

pub returns : goal.returns
returns c =
    let hash = c.args.hash in
    record {
      inner = holding_as hash _ _ _ (front-padded hash 0x36 c.args.key.now c.key_block-block.result c.masked.result c.block_size-size.result c.key_block-block.ensures c.masked.ensures c.block_size-size.ensures) (c.update.ensures hash _ c.new-inner.ensures);
      outer = holding_as hash _ _ _ (front-padded hash 0x5C c.args.key.now c.key_block-block.result c.masked-2.result c.block_size-size.result c.key_block-block.ensures c.masked-2.ensures c.block_size-size.ensures) (c.update-2.ensures hash _ c.new-outer.ensures);
    }
