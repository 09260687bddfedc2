-- What calls answer that allow so many levels of bags (own).
use Rattle.std.specs.Prelude.{◌≡◌, ℕ, List, Option, Some, None, Result, Ok, Err}
use Rattle.picky_der.specs.declared.fault.DerError.{DerError}
use Rattle.picky_der.specs.View.{Place}
use Rattle.picky_der.specs.Reading.{Fails}

-- `read deep` is what reading gives where `deep` stands for a bag that stands deeper than is allowed, with no bad place before
-- it. A call answered None where that is what reading gives, whatever stands for it; else what reading gives, unless memory ran out.
abbrev pub GivesLevels : {X Y : Type 0} → (X → Y) → Result (Option X) DerError → (DerError → Result Y DerError) → Type 0
GivesLevels view (Ok (Some x)) read = (deep : DerError) → read deep ≡ Ok (view x)
GivesLevels view (Ok None) read = (deep : DerError) → read deep ≡ Err deep
GivesLevels view (Err e) read = (deep : DerError) → Fails e (read deep)

-- A reader's call: the same, and it stands after the value, no deeper; else it stands where it stood.
abbrev pub ReadsLevels : {X Y : Type 0} → (X → Y) → (DerError → ℕ → List ℕ → Result (Y × List ℕ) DerError) → Place → Result (Option X) DerError → Place → Type 0
ReadsLevels view read old (Ok (Some x)) new = ((deep : DerError) → read deep old.depth old.left ≡ Ok (view x, new.left)) × (new.depth ≡ old.depth)
ReadsLevels view read old (Ok None) new = ((deep : DerError) → read deep old.depth old.left ≡ Err deep) × (new ≡ old)
ReadsLevels view read old (Err e) new = ((deep : DerError) → Fails e (read deep old.depth old.left)) × (new ≡ old)
