-- A type's default: values that mean the same are defaults together.
use Rattle.std.specs.Prelude.{◌≡◌, ◌↔◌}
use Rattle.std.proofs.Common.{◌∙◌, sym}

pub one_default : {A : Type 0} (d x y : A) → x ≡ d → ((y ≡ d) ↔ (x ≡ y))
one_default d x y is_default = ((λ e. is_default ∙ sym e), (λ e. sym e ∙ is_default))
