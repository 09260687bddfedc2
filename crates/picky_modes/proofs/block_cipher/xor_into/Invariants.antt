use Rattle.std.proofs.Common.{◌≡◌, ◌++◌, take, drop}
use Rattle.picky_contract.specs.Sums.{add_bytes}
use Rattle.picky_modes.proofs.block_cipher.xor_into.Given as goal

abbrev pub invariant-loop-i : goal.invariant-loop-i
invariant-loop-i l = l.block ≡ add_bytes (take l.i l.fn.block) (take l.i l.mask) ++ drop l.i l.fn.block
