use Rattle.std.proofs.Common.{◌≤◌}
use Rattle.picky_kdf.proofs.Numbers.{IsRaisedFrom}
use Rattle.picky_kdf.proofs.pkcs12.raise.Given as goal

abbrev pub invariant-loop-i : goal.invariant-loop-i
invariant-loop-i l = IsRaisedFrom l.fn.block l.b l.block l.carry l.i × (l.carry ≤ 1)
