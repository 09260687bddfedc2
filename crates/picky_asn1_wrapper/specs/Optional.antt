-- A field that is left out where it has its default (X.690 section 11.5; an explicit default is read too, which is own).
use Rattle.std.specs.Prelude.{◌≡◌, ◌⊎◌, ℕ, Bool, true, false, List, [], ◌∷◌, Result, Ok, Err}
use Rattle.picky_der.specs.declared.fault.DerError.{DerError}
use Rattle.picky_der.specs.declared.fault.DerError.TheVariants.{BadValue, OutOfMemory}
use Rattle.picky_der.specs.View.{Place}
use Rattle.picky_der.specs.Reading.{Reads}
use Rattle.picky_der.specs.Form.{Form, Writes}

-- some byte stands there, and the type begins with it
abbrev pub stands_next : (ℕ → Bool) → List ℕ → Bool
stands_next begins [] = false
stands_next begins (b ∷ bs) = begins b

-- a default was answered, or memory ran out; the reader stays
abbrev pub TakesDefault : {X : Type 0} → (X → Type 0) → Place → Result X DerError → Place → Type 0
TakesDefault IsDefault old (Ok x) new = IsDefault x × (new ≡ old)
TakesDefault IsDefault old (Err e) new = (e ≡ OutOfMemory) × (new ≡ old)

-- where the type stands next, it is read, fault or not; else the default is taken
pub record ReadsOptional {X Y : Type 0} (view : X → Y) (IsDefault : X → Type 0) (f : Form Y) (old : Place) (result : Result X DerError) (new : Place) : Type 0 where
  pub there : stands_next f.begins old.left ≡ true → Reads view f.reading old result new
  pub absent : stands_next f.begins old.left ≡ false → TakesDefault IsDefault old result new

-- the default adds nothing, any other value its encoding; a refusal adds nothing
abbrev pub WritesOptional : Type 0 → (List ℕ → Type 0) → Type 0 → Result (Unit {0}) DerError → List ℕ → List ℕ → Type 0
WritesOptional IsDefault Encodes Refused (Ok u) old new = (IsDefault × (new ≡ old)) ⊎ ((¬ IsDefault) × Writes Encodes Refused (Ok u) old new)
WritesOptional IsDefault Encodes Refused (Err e) old new = ((e ≡ OutOfMemory) ⊎ ((e ≡ BadValue) × Refused × (¬ IsDefault))) × (new ≡ old)
