use Rattle.std.proofs.Common.{◌≡◌, ◌*◌, ◌/◌, length}
use Rattle.picky_kdf.specs.Parts.{joined}
use Rattle.picky_kdf.proofs.Rounds.{round_at, text_at}
use Rattle.picky_kdf.proofs.pkcs12.pbkdf1.Given as goal

abbrev pub invariant-loop-done : goal.invariant-loop-done
invariant-loop-done l = record {
  whole : length l.text.items ≡ length l.text.items / l.block * l.block;
  text : l.text.items ≡ text_at l.hash l.password l.salt l.kdf_iterations l.fn.usage l.done;
  key : l.key.items ≡ joined (round_at l.hash l.password l.salt l.kdf_iterations l.fn.usage) 0 l.done;
  size : length l.key.items ≡ l.done * l.part;
}
