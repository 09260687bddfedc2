-- Records that may hold themselves, nested at most so many levels (own).
use Rattle.std.specs.Prelude.{◌≡◌, ℕ, zero, suc, ◌==◌, List, [], Option, Some, None, Result, Ok, Err}
use Rattle.picky_der.specs.declared.fault.DerError.{DerError}
use Rattle.picky_der.specs.declared.fault.DerError.TheVariants.{OutOfMemory}
use Rattle.picky_der.specs.View.{Place}
use Rattle.picky_der.specs.Reading.{◌>>=◌, Fails, tag_at}
use Rattle.picky_der.specs.Form.{Form}
use Rattle.picky_fields.specs.Fields.{Fields, sequence}

-- a record stands one level deeper than is allowed; as a fault of reading this stands for that alone, since reading takes no memory
abbrev pub one_level_more : DerError
one_level_more = OutOfMemory

unfoldable pub no_level_at : {X : Type 0} → List ℕ → Result (X × List ℕ) DerError
no_level_at bytes = tag_at bytes >>= λ _. Err one_level_more

-- no levels: no record is in form, and one stands where a further byte does
abbrev pub no_level : {X : Type 0} → Form X
no_level = record {
  in_form = λ _. ⊥;
  Spells = λ _ _. ⊥;
  height = λ _ _ _. 0;
  Encodes = λ _ _. ⊥;
  encoding = λ _. [];
  Refused = λ _. Unit {0};
  begins = λ b. b == 48;
  reading = λ _ bytes. no_level_at bytes;
}

-- So many levels: `fields` says what stands in a record, by what stands one level deeper.
unfoldable pub levels : {X : Type 0} → (Form X → Fields X) → ℕ → Form X
levels fields zero = no_level
levels fields (suc n) = sequence (fields (levels fields n))

-- ---- what calls answer

-- A call answered what reading gives, None where that is a record one level deeper than is allowed, unless memory ran out.
abbrev pub GivesLevels : {X Y : Type 0} → (X → Y) → Result (Option X) DerError → Result Y DerError → Type 0
GivesLevels view (Ok (Some x)) read = read ≡ Ok (view x)
GivesLevels view (Ok None) read = read ≡ Err one_level_more
GivesLevels view (Err e) read = Fails e read

-- A reader's call: the same, and it stands after the value; else it stands where it stood.
abbrev pub ReadsLevels : {X Y : Type 0} → (X → Y) → (ℕ → List ℕ → Result (Y × List ℕ) DerError) → Place → Result (Option X) DerError → Place → Type 0
ReadsLevels view read old (Ok (Some x)) new = (read old.depth old.left ≡ Ok (view x, new.left)) × (new.depth ≡ old.depth)
ReadsLevels view read old (Ok None) new = (read old.depth old.left ≡ Err one_level_more) × (new ≡ old)
ReadsLevels view read old (Err e) new = Fails e (read old.depth old.left) × (new ≡ old)

-- The same of fields, where the reader is given up after None and after a fault.
abbrev pub ReadsFieldsLevels : {X Y : Type 0} → (X → Y) → (ℕ → List ℕ → Result (Y × List ℕ) DerError) → Place → Result (Option X) DerError → Place → Type 0
ReadsFieldsLevels view read old (Ok (Some x)) new = (read old.depth old.left ≡ Ok (view x, new.left)) × (new.depth ≡ old.depth)
ReadsFieldsLevels view read old (Ok None) new = read old.depth old.left ≡ Err one_level_more
ReadsFieldsLevels view read old (Err e) new = Fails e (read old.depth old.left)
