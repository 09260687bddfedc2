-- The pieces that a split gives.
use Rattle.std.proofs.Common.{◌≢◌, ℕ, ◌<◌, List, [], ◌∷◌, length, inl, inr, arith}
use Rattle.std.specs.Prelude.{◌==◌}
use Rattle.std.specs.List.{AllByRecursion, slice_split, onto_first}
use Rattle.std.proofs.lemmas.List.Splits.{length-slice_split}
use Rattle.std.proofs.lemmas.List.Elements.{All-from_recursion, recursion_from_All}
use Rattle.std.proofs.lemmas.Bool.{cases_Bool, eqb-false}
use Rattle.picky_contract.specs.Text.{Lacks}

pub lacks_nil : (c : ℕ) → Lacks c []
lacks_nil c = All-from_recursion (λ (b : ℕ). b ≢ c) [] tt

pub lacks_cons : (c b : ℕ) (bs : List ℕ) → b ≢ c → Lacks c bs → Lacks c (b ∷ bs)
lacks_cons c b bs ne h = All-from_recursion (λ (x : ℕ). x ≢ c) (b ∷ bs) (ne, recursion_from_All (λ (x : ℕ). x ≢ c) bs h)

onto_lacks : (c b : ℕ) (ps : List (List ℕ)) → b ≢ c → AllByRecursion (Lacks c) ps → AllByRecursion (Lacks c) (onto_first b ps)
onto_lacks c b [] ne h = (lacks_cons c b [] ne (lacks_nil c), tt)
onto_lacks c b (p ∷ ps) ne h = (lacks_cons c b p ne h.0, h.1)

pub splits_lack : (c : ℕ) (bs : List ℕ) → AllByRecursion (Lacks c) (slice_split (λ b. b == c) bs)
splits_lack c [] = (lacks_nil c, tt)
splits_lack c (b ∷ bs) =
    elim (cases_Bool (b == c)) [
      | inl e ↦ rw e (lacks_nil c, splits_lack c bs)
      | inr e ↦ rw e (onto_lacks c b _ (eqb-false b c e) (splits_lack c bs))
    ]

pub splits_some : (c : ℕ) (bs : List ℕ) → 0 < length (slice_split (λ b. b == c) bs)
splits_some c bs = omega (arith, length-slice_split (λ b. b == c) bs)
