-- Lists of bags, part of the way through.
use Rattle.std.proofs.Common.{◌≡◌, ℕ, ◌+◌, ◌<◌, List, ◌++◌, length, take, get_or, sym, subst}
use Rattle.std.proofs.lemmas.List.{map-id}
use Rattle.picky_asn1_wrapper.specs.Lists.{SpellsAll, SomeRefused}
use Rattle.picky_asn1_wrapper.specs.laws.Loops.{SpellsAll-next, SomeRefused-at}

-- one value more is written
pub items_next : {X : Type 0} (Spells : List ℕ → X → Type 0) (xs : List X) (i : ℕ) (x : X) (s one now : List ℕ) → i < length xs → x ≡ get_or xs i x → SpellsAll Spells s (take i xs) → Spells one x → now ≡ s ++ one → SpellsAll Spells now (take (i + 1) xs)
items_next {X = X} Spells xs i x s one now lt e p q n =
    subst (λ (ys : List X). SpellsAll Spells now ys) (map-id (take (i + 1) xs))
    (SpellsAll-next (λ (y : X). y) Spells xs i x s one now lt e (subst (λ (ys : List X). SpellsAll Spells s ys) (sym (map-id (take i xs))) p) q n)

-- the value at a place is refused
pub refused_at : {X : Type 0} (Refused : X → Type 0) (xs : List X) (i : ℕ) (x : X) → i < length xs → x ≡ get_or xs i x → Refused x → SomeRefused Refused xs
refused_at {X = X} Refused xs i x lt e r = subst (λ (ys : List X). SomeRefused Refused ys) (map-id xs) (SomeRefused-at (λ (y : X). y) Refused xs i x lt e r)
