use Rattle.std.proofs.Common.{◌≡◌, ◌≤◌}
use Rattle.rand_chacha.specs.ChaCha.{key_of}
use Rattle.picky_gate.specs.Generated.{Counts}
use Rattle.picky_generate.specs.Words.{seed_bytes}
use Rattle.picky_gate.proofs.generated.count_good.Given as goal

-- the next word is that of the number, and those below it are counted
abbrev pub invariant-loop-number : goal.invariant-loop-number
invariant-loop-number l = record {
  words : l.words ≡ record { key = key_of (seed_bytes l.seed); stream = 0; word_pos = l.number };
  below : l.number ≤ l.count;
  counted : Counts l.seed l.number l.good;
  few : l.good ≤ l.number;
}
