-- What calls on a record's fields answer: the reader and the vector are the caller's own, who gives them up where a call is refused (own).
use Rattle.std.specs.Prelude.{◌≡◌, ℕ, List, Result, Ok, Err, ◌⊎◌}
use Rattle.picky_der.specs.declared.fault.DerError.{DerError}
use Rattle.picky_der.specs.declared.fault.DerError.TheVariants.{OutOfMemory, BadValue}
use Rattle.picky_der.specs.View.{Place}
use Rattle.picky_der.specs.Reading.{Gives}
use Rattle.picky_fields.specs.Fields.{Fields}

-- What a Rust type is as a run of fields: the values of the run, which of them a value is seen as, and the run.
pub record FieldsOf (T : Type 0) : Type 1 where
  pub Value : Type 0
  pub view : T → Value
  pub run : Fields Value

abbrev pub fields_by : {T Y : Type 0} → (T → Y) → Fields Y → FieldsOf T
fields_by {Y = Y} view run = record { Value = Y; view = view; run = run }

-- A call answered what reading gives, unless memory ran out, and then the reader stands after it.
abbrev pub ReadsFields : {X Y : Type 0} → (X → Y) → Fields Y → Place → Result X DerError → Place → Type 0
ReadsFields view f old result new = Gives (λ x. (view x, new.left)) result (f.reading old.depth old.left)

-- A call wrote the encoding of the run into a vector that held nothing, unless it wanted memory, or the run is refused.
abbrev pub WritesFields : {Y : Type 0} → Fields Y → Y → Result (Unit {0}) DerError → List ℕ → Type 0
WritesFields f y (Ok _) new = f.Encodes new y
WritesFields f y (Err e) new = (e ≡ OutOfMemory) ⊎ ((e ≡ BadValue) × f.Refused y)
