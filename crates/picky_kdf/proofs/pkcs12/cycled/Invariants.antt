use Rattle.std.proofs.Common.{◌≡◌, ℕ, ◌<◌, get_or, length}
use Rattle.picky_kdf.proofs.Cycles.{byte_at}
use Rattle.picky_kdf.proofs.pkcs12.cycled.Given as goal

abbrev pub invariant-loop-i : goal.invariant-loop-i
invariant-loop-i l = record {
  size : length l.out ≡ 128;
  filled : (k : ℕ) → k < l.i → get_or l.out k 0 ≡ byte_at l.text k;
}
