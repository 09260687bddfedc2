use Rattle.std.proofs.Common.{◌≡◌, ◌++◌, take, drop}
use Rattle.picky_contract.specs.Sums.{add_bytes}
use Rattle.picky_gcm.proofs.gcm.add.Given as goal

abbrev pub invariant-loop-i : goal.invariant-loop-i
invariant-loop-i l = l.block ≡ add_bytes (take l.i l.initial.block) (take l.i l.other) ++ drop l.i l.initial.block
