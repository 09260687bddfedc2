use Rattle.std.proofs.Common.{rules}
use Rattle.picky_aes.proofs.WordRound.{UNROUND-is}
use Rattle.picky_aes.proofs.undo.unmixed_byte.Goals as goal

pub returns : goal.returns
returns c = UNROUND-is c.args.byte (search rules)
