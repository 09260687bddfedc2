-- The order of bytes says Equal exactly where their equality holds.
use Rattle.std.proofs.Common.{◌≡◌, ◌↔◌, ℕ, List, true, IsTrue, nat_eq, sym, ap, ◌∙◌, refl, nat_cmp}
use Rattle.std.specs.Ordering.{is_eq}
use Rattle.std.specs.declared.cmp.Ordering.{Ordering}
use Rattle.std.specs.declared.cmp.Ordering.TheVariants.{Less, Equal, Greater}
use Rattle.std.specs.Cmp.Lexicographic.{slice_cmp, pointwise}
use Rattle.std.proofs.lemmas.Map.Text.{is_eq-slice_cmp}
use Rattle.std.proofs.lemmas.Bool.{false≢true}

tied : (o : Ordering) → is_eq o ≡ true → o ≡ Equal
tied Less h = absurd (false≢true h)
tied Equal h = refl
tied Greater h = absurd (false≢true h)

pub order_agrees : (xs ys : List ℕ) → IsTrue (pointwise nat_eq xs ys) ↔ (slice_cmp nat_cmp xs ys ≡ Equal)
order_agrees xs ys =
    ((λ equal. tied (slice_cmp nat_cmp xs ys) (is_eq-slice_cmp xs ys ∙ equal)), (λ tie. sym (is_eq-slice_cmp xs ys) ∙ ap is_eq tie))
