use Rattle.std.proofs.Common.{◌≡◌, ◌≤◌, ◌++◌, length}
use Rattle.picky_gate.specs.Command.{values_under}
use Rattle.picky_outside.specs.Outside.{texts_of}
use Rattle.picky_gate.proofs.Values.{values_in}
use Rattle.picky_gate.proofs.words.values_of.Given as goal

abbrev pub invariant-loop-rest : goal.invariant-loop-rest
invariant-loop-rest l = record { found : values_under l.flag (texts_of l.words) ≡ values_in l.found ++ values_under l.flag (texts_of l.rest); few : length (values_in l.found) ≤ 1 }

abbrev pub decreases-loop-rest : goal.decreases-loop-rest
decreases-loop-rest l = length l.rest
