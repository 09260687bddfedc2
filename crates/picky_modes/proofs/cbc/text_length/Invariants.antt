use Rattle.std.proofs.Common.{◌≡◌, ◌-◌, ◌<◌, ◌≤◌, IsTrue, length, get_or, ℕ}
use Rattle.picky_modes.proofs.cbc.text_length.Given as goal

abbrev pub invariant-loop-i : goal.invariant-loop-i
invariant-loop-i l = record {
  sound : IsTrue l.right → (0 < l.count) × (l.count ≤ l.size)
      × ((k : ℕ) → length l.plain - l.size ≤ k → k < l.i → length l.plain - k ≤ l.count → get_or l.plain k 0 ≡ l.count);
  complete : 0 < l.count → l.count ≤ l.size → ((k : ℕ) → k < length l.plain → length l.plain - k ≤ l.count → get_or l.plain k 0 ≡ l.count) → IsTrue l.right;
}
