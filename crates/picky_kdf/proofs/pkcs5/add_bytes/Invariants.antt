use Rattle.std.proofs.Common.{◌≡◌, ◌++◌, take, drop}
use Rattle.picky_contract.specs.Sums.{add_bytes}
use Rattle.picky_kdf.proofs.pkcs5.add_bytes.Given as goal

abbrev pub invariant-loop-i : goal.invariant-loop-i
invariant-loop-i g l = l.sum ≡ add_bytes (take l.i l.fn.sum) (take l.i l.mac) ++ drop l.i l.fn.sum
