use Rattle.std.proofs.Common.{◌≡◌, ℕ, List, length, take}
use Rattle.picky_kdf.specs.Hmac.{padded_key}
use Rattle.picky_kdf.specs.Pbkdf2.{iterated, key_sum}
use Rattle.picky_kdf.proofs.pkcs5.add_macs_by.Given as goal

abbrev pub invariant-loop-done : goal.invariant-loop-done
invariant-loop-done g l = record {
  last_size : length l.last ≡ g.row.N;
  sum_size : length l.sum ≡ g.row.N;
  summed : (password salt : List ℕ) → (number : ℕ)
      → g.H.HashFunction.holds l.inner (padded_key g.H.HashFunction.function 0x36 password)
      → g.H.HashFunction.holds l.outer (padded_key g.H.HashFunction.function 0x5C password)
      → take g.row.N l.fn.front ≡ iterated g.H.HashFunction.function password salt number 1
      → (l.last ≡ iterated g.H.HashFunction.function password salt number l.done)
      × (l.sum ≡ key_sum g.H.HashFunction.function password salt number l.done);
}
