use Rattle.std.proofs.Common.{◌≡◌, ◌++◌}
use Rattle.picky_kdf.specs.Pkcs12Kdf.{cycled}
use Rattle.picky_kdf.proofs.pkcs12.push_repeated.Given as goal

abbrev pub invariant-loop-i : goal.invariant-loop-i
invariant-loop-i l = l.out.items ≡ l.fn.out.items ++ cycled l.text l.i
