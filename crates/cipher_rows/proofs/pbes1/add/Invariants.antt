use Rattle.std.proofs.Common.{◌≡◌, ℕ, ◌%◌, ◌<◌, ◌≤◌, length, slice_index, bit_xor}
use Rattle.cipher_rows.proofs.pbes1.add.Given as goal

abbrev pub invariant-loop-i : goal.invariant-loop-i
invariant-loop-i l = record {
  size : length l.block ≡ 8;
  done : (k : ℕ) → k < l.i → slice_index l.block k ≡ bit_xor (slice_index l.fn.block k) (slice_index l.key (k % length l.key));
  rest : (k : ℕ) → l.i ≤ k → slice_index l.block k ≡ slice_index l.fn.block k;
}
