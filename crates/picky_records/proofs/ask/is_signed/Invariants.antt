use Rattle.std.proofs.Common.{length}
use Rattle.std.specs.Prelude.{◌↔◌}
use Rattle.picky_records.specs.Meanings.{signs_by}
use Rattle.picky_records.proofs.ask.is_signed.Given as goal

-- what is left decides
abbrev pub invariant-loop-rest : goal.invariant-loop-rest
invariant-loop-rest l = signs_by l.rest l.key l.algorithm l.message l.signature ↔ signs_by l.lines l.key l.algorithm l.message l.signature

abbrev pub decreases-loop-rest : goal.decreases-loop-rest
decreases-loop-rest l = length l.rest
