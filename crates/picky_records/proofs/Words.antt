-- Lines whose first field is another word.
use Rattle.std.proofs.Common.{◌≡◌, ℕ, ◌≤◌, ◌<◌, List, [], ◌∷◌, length, get_or, refl, arith}
use Rattle.std.specs.Prelude.{false, codes}
use Rattle.std.specs.Borrow.{Bor}
use Rattle.std.specs.Str.{bytes_eq}
use Rattle.picky_records.specs.declared.error.RecordFault.TheVariants.{BadLine}
use Rattle.picky_records.specs.Reading.{form_table}
use Rattle.picky_records.proofs.Cutting.{texts}

pub no_pair : (n : ℕ) (fs : List (Bor (List ℕ))) (d : Bor (List ℕ)) → 3 ≤ length fs → length fs < 4 → bytes_eq (get_or fs 0 d).now (codes "pair") ≡ false
    → (form_table n (texts fs)).refuses (BadLine n)
unfolding form_table
no_pair n [] d low high h = absurd (omega (arith, low))
no_pair n (a ∷ []) d low high h = absurd (omega (arith, low))
no_pair n (a ∷ b ∷ []) d low high h = absurd (omega (arith, low))
no_pair n (a ∷ b ∷ e ∷ []) d low high h = rw h refl
no_pair n (a ∷ b ∷ e ∷ f ∷ fs) d low high h = absurd (omega (arith, high))

pub no_agree : (n : ℕ) (fs : List (Bor (List ℕ))) (d : Bor (List ℕ)) → 4 ≤ length fs → length fs < 5 → bytes_eq (get_or fs 0 d).now (codes "agree") ≡ false
    → (form_table n (texts fs)).refuses (BadLine n)
unfolding form_table
no_agree n [] d low high h = absurd (omega (arith, low))
no_agree n (a ∷ []) d low high h = absurd (omega (arith, low))
no_agree n (a ∷ b ∷ []) d low high h = absurd (omega (arith, low))
no_agree n (a ∷ b ∷ e ∷ []) d low high h = absurd (omega (arith, low))
no_agree n (a ∷ b ∷ e ∷ f ∷ []) d low high h = rw h refl
no_agree n (a ∷ b ∷ e ∷ f ∷ g ∷ fs) d low high h = absurd (omega (arith, high))

pub no_sig : (n : ℕ) (fs : List (Bor (List ℕ))) (d : Bor (List ℕ)) → 5 ≤ length fs → length fs < 6 → bytes_eq (get_or fs 0 d).now (codes "sig") ≡ false
    → bytes_eq (get_or fs 0 d).now (codes "unwrap") ≡ false → (form_table n (texts fs)).refuses (BadLine n)
unfolding form_table
no_sig n [] d low high h k = absurd (omega (arith, low))
no_sig n (a ∷ []) d low high h k = absurd (omega (arith, low))
no_sig n (a ∷ b ∷ []) d low high h k = absurd (omega (arith, low))
no_sig n (a ∷ b ∷ e ∷ []) d low high h k = absurd (omega (arith, low))
no_sig n (a ∷ b ∷ e ∷ f ∷ []) d low high h k = absurd (omega (arith, low))
no_sig n (a ∷ b ∷ e ∷ f ∷ g ∷ []) d low high h k = rw (h, k) refl
no_sig n (a ∷ b ∷ e ∷ f ∷ g ∷ i ∷ fs) d low high h k = absurd (omega (arith, high))
