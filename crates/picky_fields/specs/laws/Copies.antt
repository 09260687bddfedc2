-- A copy of a value that may be absent.
use Rattle.std.proofs.Common.{◌≡◌, Option, Some, None, refl}
use Rattle.std.specs.Option.{option_map}

-- where a value means itself, so does its copy
pub copied_option : {X : Type 0} (copy value : Option X) → option_map (λ (x : X). x) copy ≡ option_map (λ (x : X). x) value → copy ≡ value
copied_option None None e = refl
copied_option None (Some x) e = absurd cc
copied_option (Some x) None e = absurd cc
copied_option (Some x) (Some y) e = e
