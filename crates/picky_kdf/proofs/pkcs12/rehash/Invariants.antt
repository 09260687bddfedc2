use Rattle.std.proofs.Common.{◌≡◌, ◌+◌, ℕ, List, length, take}
use Rattle.picky_kdf.specs.Pkcs12Kdf.{hashed}
use Rattle.picky_kdf.proofs.pkcs12.rehash.Given as goal

abbrev pub invariant-loop-done : goal.invariant-loop-done
invariant-loop-done g l = record {
  size : length l.last ≡ g.row.N;
  hashed : (text : List ℕ) → (n : ℕ) → take g.row.N l.fn.front ≡ hashed g.H.HashFunction.function text n → l.last ≡ hashed g.H.HashFunction.function text (n + l.done);
}
