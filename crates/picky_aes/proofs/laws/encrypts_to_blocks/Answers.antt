use Rattle.picky_aes.specs.Words.{bytes_of}
use Rattle.picky_aes.proofs.WordBytes.{long-bytes_of}
use Rattle.picky_aes.proofs.Front.{block-to-block, key_size, length-key}
use Rattle.picky_aes.proofs.laws.encrypts_to_blocks.Goals as goal

pub returns-clause-size : goal.returns-clause-size
returns-clause-size c =
    key_size c.aes.inside.words _ c.aes.invariant.expanded.count (length-key c.aes.inside.words (bytes_of c.aes.inside.keys) c.args.aes.now c.aes.invariant.expanded (long-bytes_of c.aes.inside.keys c.aes.told.0) c.aes.view_is)

pub returns-clause-block : goal.returns-clause-block
returns-clause-block c = block-to-block c.aes.inside.words (bytes_of c.aes.inside.keys) c.args.aes.now c.aes.invariant.expanded (long-bytes_of c.aes.inside.keys c.aes.told.0) c.aes.view_is
