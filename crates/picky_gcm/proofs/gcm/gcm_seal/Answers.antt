use Rattle.picky_gcm.proofs.Sealing.{sealed-tag, sealed-text}
use Rattle.picky_gcm.proofs.gcm.gcm_seal.Goals as goal

pub returns-clause-text : goal.returns-clause-text
returns-clause-text c = sealed-text c.args.aes.now c.args.nonce.now c.args.aad.now c.args.buffer.now c.count.new.buffer c.count.ensures

pub returns-clause-tag : goal.returns-clause-tag
returns-clause-tag c =
    sealed-tag c.args.aes.now c.args.nonce.now c.args.aad.now c.args.buffer.now c.count.new.buffer c.tag_of.result c.count.ensures c.tag_of.ensures
