-- What was set, and what wasn't.
use Rattle.std.proofs.Common.{◌≡◌, Option, Some, None, sym, ◌∙◌}

some_same : {X : Type 0} (x y : X) → Some x ≡ Some y → x ≡ y
some_same x y e = cc

none_is_some : {X : Type 0} (x : X) → None ≡ Some x → ⊥
none_is_some x e = cc

pub set_once : {X : Type 0} (o : Option X) (x : X) → o ≡ Some x → (o ≡ Some x) × ((y : X) → o ≡ Some y → y ≡ x)
set_once o x e = (e, λ y f. some_same y x (sym f ∙ e))

pub not_set : {X : Type 0} (o : Option X) → o ≡ None → (x : X) → o ≡ Some x → ⊥
not_set o e x f = none_is_some x (sym e ∙ f)
