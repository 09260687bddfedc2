-- Exits of functions whose refusals are a table.
use Rattle.std.proofs.Common.{◌≡◌, IfSome, Option, Some, Result, sym, ◌∙◌}
use Rattle.std.specs.Prelude.{IsErrAnd}
use Rattle.std.proofs.lemmas.Option.{same_Some}
use Rattle.picky_contract.specs.Refusals.{Table, the, Meets}
use Rattle.picky_contract.specs.laws.Tables.{up, err_meets}

-- the `?` of a step whose refusals R are the table's
pub exit : {Y Z E F : Type 0} (view : Z → Y) (fault : E → Option F) (r : Result Z E) (d : E) (t : Table Y F) (R : F → Type 0)
    → IsErrAnd r (λ e. e ≡ d) → IfSome (fault d) R → ((f : F) → R f → t.refuses f) → Meets view fault r t
exit view fault r d t R is refused reached = err_meets view fault r d t is (up (fault d) R t.refuses reached refused)

-- a step that looks a name up
pub named_gives : {A F : Type 0} (o r : Option A) (x : A) (f : F) → r ≡ Some x → r ≡ o → (the (λ a. o ≡ Some a) f).gives x
named_gives o r x f is found = (sym found ∙ is, λ y h. sym (same_Some x y (sym is ∙ found ∙ h)))
