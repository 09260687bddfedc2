use Rattle.std.proofs.Common.{ap, ◌∙◌}
use Rattle.picky_aes.specs.Cipher.{cipher}
use Rattle.picky_gcm.proofs.Stream.{block-is}
use Rattle.picky_gcm.proofs.counter.stream_block.Goals as goal

pub returns : goal.returns
returns c =
    c.encrypt_block.ensures ∙ ap (cipher c.args.aes.now) (block-is c.args.nonce.now c.to_be_bytes.result c.args.k c.told-nonce c.requires c.to_be_bytes.ensures)
