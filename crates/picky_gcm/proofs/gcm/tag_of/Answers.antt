use Rattle.std.proofs.Common.{◌∙◌}
use Rattle.picky_gcm.proofs.Sealing.{tag-is}
use Rattle.picky_gcm.proofs.gcm.tag_of.Goals as goal

pub returns : goal.returns
returns c =
    tag-is c.args.aes.now c.args.nonce.now c.args.aad.now c.args.sealed.now c.new.result c.ghash-tag.result c.stream_block.result c.add.new.block
    (c.new.ensures ∙ c.encrypt_block.ensures) c.ghash-tag.ensures c.stream_block.ensures c.add.ensures
