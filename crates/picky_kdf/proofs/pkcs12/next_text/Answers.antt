use Rattle.std.proofs.Common.{refl}
use Rattle.picky_kdf.proofs.Rounds.{next-text-is}
use Rattle.picky_kdf.proofs.pkcs12.next_text.Goals as goal

pub returns : goal.returns
returns c = next-text-is c.args.block c.args.digest.now c.cycled-b.result _ c.args.text.now c.raise_blocks.new.text c.requires.short c.cycled-b.ensures refl c.raise_blocks.ensures
