-- What a call that reads a tree answers, want of memory aside (own).
use Rattle.std.specs.Prelude.{◌≡◌, Result, Ok, Err}
use Rattle.picky_members.specs.declared.form.FormError.{FormError}
use Rattle.picky_members.specs.declared.form.FormError.TheVariants.{NotOfForm}

-- where the error says that the tree isn't of the form, P holds of no value
pub record NoneOf {Y : Type 0} (P : Y → Type 0) (e : FormError) : Type 0 where
  pub none : e ≡ NotOfForm → (y : Y) → ¬ (P y)

-- P holds of what was read; and of nothing, where nothing was read though memory was there
abbrev pub Reads : {X Y : Type 0} → (X → Y) → (Y → Type 0) → Result X FormError → Type 0
Reads view P (Ok x) = P (view x)
Reads view P (Err e) = NoneOf P e
