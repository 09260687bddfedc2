use Rattle.std.proofs.Common.{◌≡◌, ◌≤◌}
use Rattle.picky_gate.specs.Generated.{first_keys}
use Rattle.picky_gate.proofs.generated.ring_of_keys.Given as goal

-- the ring has the keys below the number
abbrev pub invariant-loop-number : goal.invariant-loop-number
invariant-loop-number l = record { keys : l.ring ≡ first_keys l.number; below : l.number ≤ 8 }
