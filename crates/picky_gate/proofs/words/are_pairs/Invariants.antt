use Rattle.std.proofs.Common.{◌↔◌, length}
use Rattle.picky_gate.specs.Command.{ArePairs}
use Rattle.picky_outside.specs.Outside.{texts_of}
use Rattle.picky_gate.proofs.words.are_pairs.Given as goal

abbrev pub invariant-loop-rest : goal.invariant-loop-rest
invariant-loop-rest l = ArePairs (texts_of l.rest) ↔ ArePairs (texts_of l.words)

abbrev pub decreases-loop-rest : goal.decreases-loop-rest
decreases-loop-rest l = length l.rest
