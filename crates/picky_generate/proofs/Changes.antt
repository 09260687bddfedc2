-- The last byte of a text.
use Rattle.std.proofs.Common.{◌≡◌, ◌≤◌, ◌-◌, ℕ, zero, suc, List, [], ◌∷◌, ◌++◌, length, take, slice_index_or, refl, ap, arith}
use Rattle.std.specs.Prelude.{bit_xor}
use Rattle.picky_generate.specs.Texts.{changed}

at_end : (bytes : List ℕ) (n : ℕ) → length bytes ≡ suc n → take n bytes ++ bit_xor (slice_index_or bytes n 0) 1 ∷ [] ≡ changed bytes
at_end [] n e = absurd (omega (arith, e))
at_end (b ∷ []) zero e = refl
at_end (b ∷ []) (suc n) e = absurd (omega (arith, e))
at_end (b ∷ c ∷ rest) zero e = absurd (omega (arith, e))
at_end (b ∷ c ∷ rest) (suc n) e = ap (λ (l : List ℕ). b ∷ l) (at_end (c ∷ rest) n (omega (arith, e)))

-- those before it, and it with its lowest bit changed
pub changed_end : (bytes : List ℕ) → 1 ≤ length bytes → take (length bytes - 1) bytes ++ bit_xor (slice_index_or bytes (length bytes - 1) 0) 1 ∷ [] ≡ changed bytes
changed_end bytes some = at_end bytes (length bytes - 1) (omega (arith, some))
