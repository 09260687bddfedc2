use Rattle.std.proofs.Common.{◌≡◌, length}
use Rattle.picky_records.specs.Lines.{first, ephemeral_in}
use Rattle.picky_records.proofs.ask.first_ephemeral.Given as goal

-- what is left decides
abbrev pub invariant-loop-rest : goal.invariant-loop-rest
invariant-loop-rest l = first (ephemeral_in l.receiver) l.rest ≡ first (ephemeral_in l.receiver) l.lines

abbrev pub decreases-loop-rest : goal.decreases-loop-rest
decreases-loop-rest l = length l.rest
