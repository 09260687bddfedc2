use Rattle.std.proofs.Common.{◌≡◌, length}
use Rattle.picky_records.specs.Lines.{first, secret_in}
use Rattle.picky_records.proofs.ask.first_secret.Given as goal

-- what is left decides
abbrev pub invariant-loop-rest : goal.invariant-loop-rest
invariant-loop-rest l = first (secret_in l.one l.other) l.rest ≡ first (secret_in l.one l.other) l.lines

abbrev pub decreases-loop-rest : goal.decreases-loop-rest
decreases-loop-rest l = length l.rest
