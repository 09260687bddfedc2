use Rattle.std.proofs.Common.{◌≡◌, length}
use Rattle.picky_records.specs.Lines.{first, pair_in}
use Rattle.picky_records.proofs.ask.first_pair.Given as goal

-- what is left decides
abbrev pub invariant-loop-rest : goal.invariant-loop-rest
invariant-loop-rest l = first (pair_in l.key) l.rest ≡ first (pair_in l.key) l.lines

abbrev pub decreases-loop-rest : goal.decreases-loop-rest
decreases-loop-rest l = length l.rest
