use Rattle.std.proofs.Common.{◌≡◌, length}
use Rattle.picky_records.specs.Lines.{first, unwrapped_in}
use Rattle.picky_records.proofs.ask.first_unwrapped.Given as goal

-- what is left decides
abbrev pub invariant-loop-rest : goal.invariant-loop-rest
invariant-loop-rest l = first (unwrapped_in l.scheme l.part l.bytes) l.rest ≡ first (unwrapped_in l.scheme l.part l.bytes) l.lines

abbrev pub decreases-loop-rest : goal.decreases-loop-rest
decreases-loop-rest l = length l.rest
