-- Pieces that are joined by a byte that none of them holds are determined by what they make.
use Rattle.std.proofs.Common.{◌≡◌, ℕ, ◌<◌, List, [], ◌∷◌, ◌++◌, length, sym, ap, subst, arith}
use Rattle.std.specs.List.{join_with_byte, AllByRecursion}
use Rattle.picky_contract.specs.Text.{Lacks}
use Rattle.picky_contract.specs.laws.Cuts.{lacks-inside, first-once}

pub joins-same : (c : ℕ) (xs ys : List (List ℕ)) → 0 < length xs → 0 < length ys → AllByRecursion (Lacks c) xs → AllByRecursion (Lacks c) ys
    → join_with_byte c xs ≡ join_with_byte c ys → xs ≡ ys
joins-same c [] ys h k l m e = absurd (omega arith)
joins-same c (x ∷ xs) [] h k l m e = absurd (omega arith)
joins-same c (x ∷ []) (y ∷ []) h k l m e = ap (λ (z : List ℕ). z ∷ []) e
joins-same c (x ∷ []) (y ∷ z ∷ zs) h k l m e = absurd (lacks-inside c y (join_with_byte c (z ∷ zs)) (subst (Lacks c) e l.0))
joins-same c (x ∷ w ∷ ws) (y ∷ []) h k l m e = absurd (lacks-inside c x (join_with_byte c (w ∷ ws)) (subst (Lacks c) (sym e) m.0))
joins-same c (x ∷ w ∷ ws) (y ∷ z ∷ zs) h k l m e =
    let r = first-once c x (join_with_byte c (w ∷ ws)) y (join_with_byte c (z ∷ zs)) e l.0 m.0 in
    let s : w ∷ ws ≡ z ∷ zs = joins-same c (w ∷ ws) (z ∷ zs) (omega arith) (omega arith) l.1 m.1 r.1 in
    let t : x ≡ y = r.0 in
    cc

pub all-push : {X : Type 0} (P : X → Type 0) (xs : List X) (y : X) → AllByRecursion P xs → P y → AllByRecursion P (xs ++ y ∷ [])
all-push P [] y h k = (k, tt)
all-push P (x ∷ xs) y h k = (h.0, all-push P xs y h.1 k)

pub all-inside : {X : Type 0} (P : X → Type 0) (xs ys : List X) (y : X) → AllByRecursion P (xs ++ y ∷ ys) → P y
all-inside P [] ys y h = h.0
all-inside P (x ∷ xs) ys y h = all-inside P xs ys y h.1
