use Rattle.std.proofs.Common.{length}
use Rattle.picky_asn1_text.specs.Bmp.{IsBmp}
use Rattle.picky_asn1_text.proofs.bmp.is_bmp.Given as goal

abbrev pub invariant-loop-unit : goal.invariant-loop-unit
invariant-loop-unit l = (IsBmp l.fn.bytes → IsBmp l.left) × (IsBmp l.left → IsBmp l.fn.bytes)

abbrev pub decreases-loop-unit : goal.decreases-loop-unit
decreases-loop-unit l = length l.left
