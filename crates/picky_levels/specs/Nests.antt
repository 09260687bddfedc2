-- Records that hold either items of their own type or something else: SEQUENCE { kind OBJECT IDENTIFIER, value [0] EXPLICIT SEQUENCE OF the record or what its kind says, and fields behind } (own).
use Rattle.std.specs.Prelude.{◌≡◌, ℕ, Bool, List, Option, Some, None, Result, Ok, Err, ◌⊎◌}
use Rattle.std.proofs.Common.{inl, inr}
use Rattle.picky_der.specs.declared.fault.DerError.{DerError}
use Rattle.picky_der.specs.declared.fault.DerError.TheVariants.{OutOfMemory, BadValue}
use Rattle.picky_der.specs.View.{Place}
use Rattle.picky_der.specs.Reading.{◌>>=◌, Gives}
use Rattle.picky_der.specs.Form.{Form}
use Rattle.picky_fields.specs.Fields.{Fields, InParts, one, then_at, ◌and◌, seen_at, seen, identifier, explicit}
use Rattle.picky_fields.specs.Choice.{Cases, case, told_by, has_contents}
use Rattle.picky_fields.specs.Levels.{levels}
use Rattle.picky_asn1_wrapper.specs.Lists.{list_form}

-- What such a record is made of. X is the type of the records.
pub record Nest (X : Type 0) : Type 1 where
  -- what stands in the place of items, and what stands behind either
  pub Other : Type 0
  pub Back : Type 0
  -- the identifier of items, of which alone the test holds
  pub items_id : List ℕ
  pub is_items : List ℕ → Bool
  -- what stands behind another identifier
  pub others : Cases (List ℕ) Other
  -- the fields behind
  pub back : Fields Back
  -- the record of such parts, and the parts of a record
  pub of_items : List X → Back → X
  pub of_other : Other → Back → X
  pub parts : X → (List X ⊎ Other) × Back

abbrev pub made_of : {X : Type 0} (d : Nest X) → List X ⊎ d.Other → d.Back → X
made_of d (inl xs) y = d.of_items xs y
made_of d (inr z) y = d.of_other z y

-- where the identifier of items has these arcs, of which these are the contents octets
abbrev pub known_nest : {X Other Back : Type 0} → List ℕ → List ℕ → Cases (List ℕ) Other → Fields Back → (List X → Back → X) → (Other → Back → X) → (X → (List X ⊎ Other) × Back) → Nest X
known_nest {Other = Other} {Back = Back} arcs octets others back of_items of_other parts = record {
  Other = Other;
  Back = Back;
  items_id = arcs;
  is_items = has_contents octets;
  others = others;
  back = back;
  of_items = of_items;
  of_other = of_other;
  parts = parts;
}

-- ---- the form

-- items in an explicit tag 0
abbrev pub items_form : {X : Type 0} → Form X → Form (List X)
items_form inner = explicit 0 (list_form (record { 0 = 48 }) inner)

-- the identifier and what it says, where this is the form of items
unfoldable pub held : {X : Type 0} (d : Nest X) → Form X → Fields (List X ⊎ d.Other)
held d inner = told_by identifier (case d.items_id d.is_items (one (items_form inner)) d.others)

-- the record, one level above its items
unfoldable pub nest_fields : {X : Type 0} (d : Nest X) → Form X → Fields X
nest_fields d inner = seen (λ x. made_of d x.0 x.1) d.parts (held d inner and d.back)

-- the records that are nested at most so many levels
abbrev pub nest_form : {X : Type 0} (d : Nest X) → ℕ → Form X
nest_form d n = levels (nest_fields d) n

-- ---- its steps

-- what reading gives where this reads what the record holds: that and the fields behind, as a record
abbrev pub joined_at : {X : Type 0} (d : Nest X) → (ℕ → List ℕ → Result ((List X ⊎ d.Other) × List ℕ) DerError) → ℕ → List ℕ → Result (X × List ℕ) DerError
joined_at d read depth bytes = seen_at (λ x. made_of d x.0 x.1) (then_at read d.back.reading) depth bytes

-- behind these items
abbrev pub behind_at : {X : Type 0} (d : Nest X) → List X → ℕ → List ℕ → Result (X × List ℕ) DerError
behind_at d xs depth bytes = joined_at d (λ _ bytes. Ok (inl xs, bytes)) depth bytes

-- behind another identifier
abbrev pub other_at : {X : Type 0} (d : Nest X) → List ℕ → ℕ → List ℕ → Result (X × List ℕ) DerError
other_at d kind depth bytes = joined_at d (λ depth bytes. d.others.reading kind depth bytes >>= λ z. Ok (inr z.0, z.1)) depth bytes

-- the items, where there are any
abbrev pub items_in : {X Z : Type 0} → List X ⊎ Z → Option (List X)
items_in (inl xs) = Some xs
items_in (inr z) = None

-- the bytes are what is written in front of items, or of another value of the record and in front of the fields behind
abbrev pub FrontEncodes : {X : Type 0} (d : Nest X) → List X ⊎ d.Other → List ℕ → Type 0
FrontEncodes d (inl xs) s = identifier.Encodes s d.items_id
FrontEncodes d (inr z) s = InParts (λ s. identifier.Encodes s (d.others.key z)) (λ s. d.others.Encodes s z) s

abbrev pub FrontRefused : {X : Type 0} (d : Nest X) → List X ⊎ d.Other → Type 0
FrontRefused d (inl xs) = identifier.Refused d.items_id
FrontRefused d (inr z) = identifier.Refused (d.others.key z) ⊎ d.others.Refused z

-- ---- what calls answer

-- A call answered what reading gives, unless memory ran out, and then the reader stands after it.
abbrev pub ReadsOn : {X : Type 0} → (ℕ → List ℕ → Result (X × List ℕ) DerError) → Place → Result X DerError → Place → Type 0
ReadsOn read old result new = Gives (λ x. (x, new.left)) result (read old.depth old.left)

-- A call wrote this into a vector that held nothing, unless it wanted memory, or it is refused.
abbrev pub WritesInto : (List ℕ → Type 0) → Type 0 → Result (Unit {0}) DerError → List ℕ → Type 0
WritesInto Encodes Refused (Ok _) new = Encodes new
WritesInto Encodes Refused (Err e) new = (e ≡ OutOfMemory) ⊎ ((e ≡ BadValue) × Refused)
