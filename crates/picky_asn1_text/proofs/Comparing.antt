-- Equality and order of byte lists agree.
use Rattle.std.proofs.Common.{◌≡◌, ◌↔◌, ℕ, List, Bool, true, false, ◌&&◌, refl, nat_eq, IsTrue}
use Rattle.std.specs.Cmp.Lexicographic.{pointwise, slice_cmp, texts_ties}
use Rattle.std.specs.Ordering.{nat_cmp, ordering_then, is_eq}
use Rattle.std.specs.declared.cmp.Ordering.{Ordering}
use Rattle.std.specs.declared.cmp.Ordering.TheVariants.{Less, Equal, Greater}

agree : (b : Bool) (o : Ordering) → b ≡ is_eq o → IsTrue (b && true) ↔ (ordering_then o Equal ≡ Equal)
agree true Less e = absurd (cc)
agree true Equal e = (λ _. refl, λ _. refl)
agree true Greater e = absurd (cc)
agree false Less e = (λ t. absurd (cc), λ t. absurd (cc))
agree false Equal e = absurd (cc)
agree false Greater e = (λ t. absurd (cc), λ t. absurd (cc))

pub bytes_agree : (xs ys : List ℕ) → IsTrue (pointwise nat_eq xs ys && true) ↔ (ordering_then (slice_cmp nat_cmp xs ys) Equal ≡ Equal)
bytes_agree xs ys = agree (pointwise nat_eq xs ys) (slice_cmp nat_cmp xs ys) (texts_ties xs ys)
