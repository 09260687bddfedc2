use Rattle.std.proofs.Common.{rules, ◌≡◌, ◌∙◌, length}
use Rattle.picky_aes.specs.Words.{bytes_of}
use Rattle.picky_aes.proofs.WordBytes.{long-bytes_of}
use Rattle.picky_aes.proofs.Front.{cipher-is}
use Rattle.picky_aes.proofs.cipher.Aes.encrypt_block.Goals as goal

pub returns : goal.returns
returns c =
    let long : length (bytes_of c.self.inside.keys) ≡ 240 = long-bytes_of c.self.inside.keys (search rules) in
    c.encrypt.ensures ∙ cipher-is c.self.inside.words (bytes_of c.self.inside.keys) c.args.self.now c.args.block.now c.self.invariant.expanded long c.self.view_is
