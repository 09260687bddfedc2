use Rattle.std.proofs.Common.{◌≡◌, ◌*◌, length}
use Rattle.picky_kdf.specs.Parts.{joined}
use Rattle.picky_kdf.specs.Pbkdf2.{key_sum}
use Rattle.picky_kdf.proofs.pkcs5.pbkdf2.Given as goal

abbrev pub invariant-loop-done : goal.invariant-loop-done
invariant-loop-done l = record {
  key : l.key.items ≡ joined (λ i. key_sum l.hash l.password l.salt i l.iterations) 1 l.done;
  size : length l.key.items ≡ l.done * l.part;
}
