-- A list that grows by one item for each of another.
use Rattle.std.proofs.Common.{◌≤◌, Some, None, ℕ, ◌+◌, ◌<◌, length, get_or, drop, drop-cons, add-one, map, subst, ◌≡◌, List, [], ◌∷◌, ◌++◌, refl, sym, ap, ◌∙◌, append_assoc}
use Rattle.std.proofs.lemmas.List.{append-nil, map-append}
use Rattle.std.proofs.Math.ListN.{drop_of_length-le}
use Rattle.std.specs.List.{AllZip}
use Rattle.picky_contract.specs.Refusals.{Finds}

-- ys belong to the items before left: what whole takes is ys, and then what belongs to left
pub record Grows {A Y : Type 0} (R : A → Y → Type 0) (left : List A) (ys : List Y) (whole : List Y → Type 0) : Type 0 where
  pub to : (zs : List Y) → AllZip R left zs → whole (ys ++ zs)
  pub from : (ws : List Y) → whole ws → (zs : List Y) × AllZip R left zs × (ws ≡ ys ++ zs)

pub grows_first : {A Y : Type 0} (R : A → Y → Type 0) (xs : List A) → Grows R xs [] (AllZip R xs)
grows_first R xs = record { to = λ zs h. h; from = λ ws h. (ws, h, refl) }

from_more : {A Y : Type 0} (R : A → Y → Type 0) (x : A) (left : List A) (ys : List Y) (y : Y) → ((z : Y) → R x z → z ≡ y)
    → (ws zs : List Y) → AllZip R (x ∷ left) zs → ws ≡ ys ++ zs → (us : List Y) × AllZip R left us × (ws ≡ (ys ++ y ∷ []) ++ us)
from_more R x left ys y one ws [] h e = absurd h
from_more R x left ys y one ws (z ∷ zs) h e = (zs, h.1, e ∙ ap (λ v. ys ++ v ∷ zs) (one z h.0) ∙ sym (append_assoc ys (y ∷ []) zs))

grows_more : {A Y : Type 0} (R : A → Y → Type 0) (x : A) (left : List A) (ys : List Y) (y : Y) (whole : List Y → Type 0)
    → R x y → ((z : Y) → R x z → z ≡ y) → Grows R (x ∷ left) ys whole → Grows R left (ys ++ y ∷ []) whole
grows_more R x left ys y whole h one g = record {
  to = λ zs hs. rw (append_assoc ys (y ∷ []) zs) (g.to (y ∷ zs) (h, hs));
  from = λ ws w. let p = g.from ws w in from_more R x left ys y one ws p.0 p.1 p.2;
}

ended : {A Y : Type 0} (R : A → Y → Type 0) (ys ws zs : List Y) → AllZip R [] zs → ws ≡ ys ++ zs → ws ≡ ys
ended R ys ws [] h e = e ∙ append-nil ys
ended R ys ws (z ∷ zs) h e = absurd h

-- no item is left
grows_last : {A Y : Type 0} (R : A → Y → Type 0) (ys : List Y) (whole : List Y → Type 0) → Grows R [] ys whole → whole ys × ((ws : List Y) → whole ws → ws ≡ ys)
grows_last R ys whole g = (rw (← append-nil ys) (g.to [] tt), λ ws w. let p = g.from ws w in ended R ys ws p.0 p.1 p.2)

nothing : {A Y : Type 0} (R : A → Y → Type 0) (x : A) (left : List A) (zs : List Y) → ((z : Y) → ¬ (R x z)) → AllZip R (x ∷ left) zs → ⊥
nothing R x left [] none h = h
nothing R x left (z ∷ zs) none h = none z h.0

-- nothing belongs to the next item
grows_none : {A Y : Type 0} (R : A → Y → Type 0) (x : A) (left : List A) (ys : List Y) (whole : List Y → Type 0) → ((z : Y) → ¬ (R x z)) → Grows R (x ∷ left) ys whole → (ws : List Y) → ¬ (whole ws)
grows_none R x left ys whole none g ws w = let p = g.from ws w in nothing R x left p.0 none p.1

-- ---- one turn of a loop over xs, whose items are seen by f

at : {A B Y : Type 0} (f : A → B) (R : B → Y → Type 0) (xs : List A) (i : ℕ) (x : A) (ys : List Y) (whole : List Y → Type 0) → i < length xs → x ≡ get_or xs i x
    → Grows R (map f (drop i xs)) ys whole → Grows R (f x ∷ map f (drop (i + 1) xs)) ys whole
at f R xs i x ys whole lt is g =
    let parts : drop i xs ≡ get_or xs i x ∷ drop (i + 1) xs = rw (add-one) (drop-cons xs i x lt) in
    let next : drop i xs ≡ x ∷ drop (i + 1) xs = parts ∙ ap (λ y. y ∷ drop (i + 1) xs) (sym is) in
    subst (λ zs. Grows R (map f zs) ys whole) next g

-- v was found for the item, and pushed
pub grows_turn : {A B V Y : Type 0} (f : A → B) (see : V → Y) (R : B → Y → Type 0) (xs : List A) (i : ℕ) (x : A) (vs ws : List V) (v : V) (whole : List Y → Type 0)
    → i < length xs → x ≡ get_or xs i x → Finds see (R (f x)) (Some v) → ws ≡ vs ++ v ∷ []
    → Grows R (map f (drop i xs)) (map see vs) whole → Grows R (map f (drop (i + 1) xs)) (map see ws) whole
grows_turn f see R xs i x vs ws v whole lt is found pushed g =
    let seen : map see ws ≡ map see vs ++ see v ∷ [] = ap (map see) pushed ∙ map-append see vs (v ∷ []) in
    rw seen (grows_more R (f x) (map f (drop (i + 1) xs)) (map see vs) (see v) whole found.0 found.1 (at f R xs i x (map see vs) whole lt is g))

-- nothing was found for the item
pub grows_stop : {A B V Y : Type 0} (f : A → B) (see : V → Y) (R : B → Y → Type 0) (xs : List A) (i : ℕ) (x : A) (ys : List Y) (whole : List Y → Type 0)
    → i < length xs → x ≡ get_or xs i x → Finds see (R (f x)) None → Grows R (map f (drop i xs)) ys whole → (ws : List Y) → ¬ (whole ws)
grows_stop f see R xs i x ys whole lt is none g = grows_none R (f x) (map f (drop (i + 1) xs)) ys whole none (at f R xs i x ys whole lt is g)

-- the loop is over
pub grows_end : {A B Y : Type 0} (f : A → B) (R : B → Y → Type 0) (xs : List A) (i : ℕ) (ys : List Y) (whole : List Y → Type 0)
    → length xs ≤ i → Grows R (map f (drop i xs)) ys whole → whole ys × ((ws : List Y) → whole ws → ws ≡ ys)
grows_end f R xs i ys whole past g =
    let none : drop i xs ≡ [] = drop_of_length-le xs past in
    grows_last R ys whole (rw none at g)
