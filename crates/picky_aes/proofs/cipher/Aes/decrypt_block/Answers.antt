use Rattle.std.proofs.Common.{rules, ◌≡◌, ◌∙◌, length, sym}
use Rattle.picky_aes.specs.Words.{bytes_of}
use Rattle.picky_aes.proofs.WordBytes.{long-bytes_of}
use Rattle.picky_aes.proofs.Front.{cipher-is}
use Rattle.picky_aes.proofs.cipher.Aes.decrypt_block.Goals as goal

pub returns-clause-back : goal.returns-clause-back
returns-clause-back c =
    let long : length (bytes_of c.self.inside.keys) ≡ 240 = long-bytes_of c.self.inside.keys (search rules) in
    sym (cipher-is c.self.inside.words (bytes_of c.self.inside.keys) c.args.self.now c.decrypt.new.block c.self.invariant.expanded long c.self.view_is) ∙ c.decrypt.ensures.back

pub returns-clause-alone : goal.returns-clause-alone
returns-clause-alone c =
    let long : length (bytes_of c.self.inside.keys) ≡ 240 = long-bytes_of c.self.inside.keys (search rules) in
    λ x h e. c.decrypt.ensures.alone x h (cipher-is c.self.inside.words (bytes_of c.self.inside.keys) c.args.self.now x c.self.invariant.expanded long c.self.view_is ∙ e)
