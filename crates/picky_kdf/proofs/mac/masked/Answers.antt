use Rattle.std.proofs.Common.{arith, ℕ, ◌≡◌, zero, suc, List, [], ◌∷◌, get_or, bit_xor, refl}
use Rattle.std.proofs.lemmas.List.Edits.{map_over_more}
use Rattle.picky_kdf.proofs.mac.masked.Goals as goal

-- what is read at a place, at any default
read_again : (xs : List ℕ) (i : ℕ) → get_or xs i 0 ≡ get_or xs i (get_or xs i 0)
read_again [] i = refl
read_again (x ∷ xs) zero = refl
read_again (x ∷ xs) (suc i) = read_again xs i

pub loop-byte-preserved : goal.loop-byte-preserved
loop-byte-preserved c =
    map_over_more (λ byte. bit_xor byte c.args.pad) c.args.block.now c.loop-byte.byte-items c.loop-byte.byte-index _ (omega arith) c.loop-byte.invariant (read_again c.loop-byte.byte-items c.loop-byte.byte-index)
