use Rattle.std.proofs.Common.{◌≡◌, ℕ, ◌<◌, length, slice_index}
use Rattle.std.specs.Int.{to_be_bytes, w32}
use Rattle.picky_aes.proofs.WordBack.{unmixed_bytes}
use Rattle.picky_aes.proofs.key_schedule.unmixed_words.Given as goal

abbrev pub invariant-loop-i : goal.invariant-loop-i
invariant-loop-i l = record {
  size : length l.words ≡ 60;
  columns : (k : ℕ) → k < l.i → to_be_bytes w32 (slice_index l.words k) ≡ unmixed_bytes (to_be_bytes w32 (slice_index l.keys k));
}
