use Rattle.std.proofs.Common.{arith}
use Rattle.picky_kdf.proofs.Keys.{long_key, short_key}
use Rattle.picky_kdf.proofs.mac.key_block.Goals as goal

pub returns-then-key-block_size : goal.returns-then-key-block_size
returns-then-key-block_size c =
    long_key c.args.hash c.args.key.now c.copy_from_slice.new.self c.hash_after-digest.result c.digest_size-size.result c.block_size.result c.block_size.ensures (omega arith) c.digest_size-size.ensures (omega arith)
    (c.hash_after-digest.ensures c.args.hash _ c.new.ensures) c.copy_from_slice.ensures.after

pub returns-else-key-block_size : goal.returns-else-key-block_size
returns-else-key-block_size c =
    short_key c.args.hash c.args.key.now c.copy_from_slice-else-key-block_size.new.self c.block_size.result c.block_size.ensures (omega arith) c.copy_from_slice-else-key-block_size.ensures.after
