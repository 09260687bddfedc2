-- Bytes compared by the bits in which they differ.
use Rattle.std.proofs.Common.{◌≡◌, ◌↔◌, ℕ, ◌+◌, ◌<◌, List, [], ◌∷◌, ◌++◌, length, take, get_or, sym, ap, ◌∙◌, arith, bit_xor}
use Rattle.std.specs.Int.Bits.{bit_or, or_zero_l, xor_self, xor_zero_l, xor_zero_r}
use lib.Bits.{xor_assoc}
use Rattle.std.proofs.lemmas.Nat.{le_or_l, le_or_r}
use Rattle.std.proofs.lemmas.List.{get_or-take, take-take, take_more}

no-difference : (x y : ℕ) → bit_xor x y ≡ 0 → x ≡ y
no-difference x y e =
    sym (xor_assoc x y y ∙ ap (bit_xor x) (xor_self y) ∙ xor_zero_r x) ∙ ap (λ z. bit_xor z y) e ∙ xor_zero_l y

-- the bits that differ are none of the first i + 1 bytes exactly where they are none of the first i and none of the next
pub same-more : (a b : List ℕ) (i d : ℕ) → i < length a → i < length b → ((d ≡ 0) ↔ (take i a ≡ take i b))
    → (bit_or d (bit_xor (get_or a i 0) (get_or b i 0)) ≡ 0) ↔ (take (i + 1) a ≡ take (i + 1) b)
same-more a b i d ha hb same =
    let x : ℕ = get_or a i 0 in
    let y : ℕ = get_or b i 0 in (
      λ e.
          let low : d ≡ 0 = omega (arith, e, le_or_l d (bit_xor x y)) in
          let high : bit_xor x y ≡ 0 = omega (arith, e, le_or_r d (bit_xor x y)) in
          take_more a i 0 ha ∙ (λ j. same.0 low j ++ no-difference x y high j ∷ []) ∙ sym (take_more b i 0 hb),
      λ e.
          let front : take i a ≡ take i b = sym (take-take i (i + 1) a (omega arith)) ∙ ap (take i) e ∙ take-take i (i + 1) b (omega arith) in
          let at : x ≡ y = sym (get_or-take (i + 1) a i 0 (omega arith)) ∙ ap (λ l. get_or l i 0) e ∙ get_or-take (i + 1) b i 0 (omega arith) in
          (λ j. bit_or (same.1 front j) (bit_xor (at j) y)) ∙ or_zero_l (bit_xor y y) ∙ xor_self y,
    )
