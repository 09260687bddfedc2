use Rattle.picky_kdf.proofs.Keys.{mac-is}
use Rattle.picky_kdf.proofs.mac.KeyedHashers.mac.Goals as goal

pub returns : goal.returns
returns c = λ key keyed.
    let hash = c.args.hash in
    mac-is hash key c.args.message.now c.hash_after-digest.result c.hash_after.result c.digest_size.result c.digest_size.ensures
    (c.hash_after-digest.ensures hash _ keyed.inner) (c.hash_after.ensures hash _ keyed.outer)
