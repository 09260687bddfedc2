-- The arcs of an object identifier come back from its subidentifiers, which fit where the arcs do (X.690, 8.19.4).
use Rattle.std.proofs.Common.{◌≡◌, ℕ, ◌+◌, ◌-◌, ◌*◌, ◌/◌, ◌<◌, ◌≤◌, min, List, [], ◌∷◌, ap, ◌∙◌, arith, inl, inr}
use Rattle.std.specs.Prelude.{All}
use Rattle.std.proofs.lemmas.List.Elements.{All-cons}
use Rattle.std.proofs.lemmas.Bool.{cases_lt}
use Rattle.picky_asn1_oid.specs.Arcs.{FitsArc, IsArcs, subidentifiers}
use Rattle.picky_asn1_oid.specs.Numbers.{arcs_from}

pub arcs_from-subidentifiers : (arcs : List ℕ) → IsArcs arcs → arcs_from (subidentifiers arcs) ≡ arcs
arcs_from-subidentifiers [] arcs = absurd arcs
arcs_from-subidentifiers (a ∷ []) arcs = absurd arcs
arcs_from-subidentifiers (a ∷ b ∷ others) arcs =
    let first : min ((40 * a + b) / 40) 2 ≡ a = head a b arcs.0 arcs.1 in
    ap (λ (k : ℕ). k ∷ (40 * a + b - 40 * k) ∷ others) first ∙ ap (λ (k : ℕ). a ∷ k ∷ others) (omega arith)
  where
    head : (a b : ℕ) → a ≤ 2 → (a < 2 → b < 40) → min ((40 * a + b) / 40) 2 ≡ a
    head a b le low = elim (cases_lt a 2) [ inl lt ↦ let small = low lt in omega arith | inr ge ↦ omega arith ]

pub subidentifiers_fit : (arcs : List ℕ) → IsArcs arcs → All FitsArc (subidentifiers arcs)
subidentifiers_fit [] arcs = absurd arcs
subidentifiers_fit (a ∷ []) arcs = absurd arcs
subidentifiers_fit (a ∷ b ∷ others) arcs = All-cons FitsArc (40 * a + b) others arcs.2 arcs.3
