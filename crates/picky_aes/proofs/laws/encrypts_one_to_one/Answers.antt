use Rattle.picky_aes.specs.Words.{bytes_of}
use Rattle.picky_aes.proofs.WordBytes.{long-bytes_of}
use Rattle.picky_aes.proofs.Front.{one-to-one}
use Rattle.picky_aes.proofs.laws.encrypts_one_to_one.Goals as goal

pub returns : goal.returns
returns c = one-to-one c.aes.inside.words (bytes_of c.aes.inside.keys) c.args.aes.now c.aes.invariant.expanded (long-bytes_of c.aes.inside.keys c.aes.told.0) c.aes.view_is
