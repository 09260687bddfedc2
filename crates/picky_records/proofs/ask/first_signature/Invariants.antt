use Rattle.std.proofs.Common.{◌≡◌, length}
use Rattle.picky_records.specs.Lines.{first, signature_in}
use Rattle.picky_records.proofs.ask.first_signature.Given as goal

-- what is left decides
abbrev pub invariant-loop-rest : goal.invariant-loop-rest
invariant-loop-rest l = first (signature_in l.key l.algorithm l.message) l.rest ≡ first (signature_in l.key l.algorithm l.message) l.lines

abbrev pub decreases-loop-rest : goal.decreases-loop-rest
decreases-loop-rest l = length l.rest
