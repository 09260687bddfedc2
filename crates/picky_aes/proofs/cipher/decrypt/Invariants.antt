use Rattle.std.proofs.Common.{◌≡◌, ◌<◌, List, ℕ, [], ◌∷◌}
use Rattle.picky_aes.specs.Cipher.{cipher_under, rounds, shift_rows, sub_bytes}
use Rattle.picky_aes.specs.Words.{bytes_of}
use Rattle.picky_aes.proofs.cipher.decrypt.Given as goal

abbrev pub invariant-loop-left : goal.invariant-loop-left
invariant-loop-left l = record {
  in_range : l.left < l.rounds;
  back : (x : List ℕ) → shift_rows (sub_bytes (rounds (bytes_of l.keys) x l.left)) ≡ bytes_of (l.a ∷ l.b ∷ l.c ∷ l.d ∷ []) → cipher_under (bytes_of l.keys) l.rounds x ≡ l.fn.block;
}

abbrev pub decreases-loop-left : goal.decreases-loop-left
decreases-loop-left l = l.left
