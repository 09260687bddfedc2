use Rattle.std.proofs.Common.{length}
use Rattle.picky_modes.proofs.Chains.{IsOpenedTo}
use Rattle.picky_modes.proofs.cbc.open_blocks.Given as goal

abbrev pub invariant-loop-k : goal.invariant-loop-k
invariant-loop-k g l = IsOpenedTo (g.C.BlockCipher.enciphered l.cipher) (length l.fn.chain) l.fn.chain l.fn.buffer l.buffer l.chain l.k
