-- Fields one after another, and the constructed value around them (X.690 sections 8.9 and 8.14; a field may be left out or have a default, X.680 section 25.2 and X.690 section 11.5; that a default is read where it is spelled is own).
use Rattle.std.specs.Prelude.{◌≡◌, ℕ, ◌+◌, ◌==◌, ◌||◌, max, Bool, true, false, if◌then◌else◌, List, [], ◌∷◌, ◌++◌, Option, Some, None, Result, Ok, Err, IfSome, ◌⊎◌}
use Rattle.std.proofs.Common.{inl, inr}
use Rattle.picky_asn1_tag.specs.declared.tag.Tag.{Tag}
use Rattle.picky_der.specs.declared.fault.DerError.{DerError}
use Rattle.picky_der.specs.declared.fault.DerError.TheVariants.{BadValue}
use Rattle.picky_der.specs.Length.{value_of}
use Rattle.picky_der.specs.Reading.{◌>>=◌, nested_at, end_at}
use Rattle.picky_der.specs.Form.{Form, IsValue}
use Rattle.picky_der.specs.Primitive.{primitive_form}
use Rattle.picky_der.specs.Plain.{null_contents, utf8_contents}
use Rattle.picky_der.specs.Strings.{integer_contents, octets_contents}
use Rattle.picky_der.specs.Natural.{natural_contents}
use Rattle.picky_der.specs.Identifier.{identifier_contents}

-- some byte stands there, and the test holds of it
abbrev pub stands_next : (ℕ → Bool) → List ℕ → Bool
stands_next test [] = false
stands_next test (b ∷ bs) = test b

-- What a run of fields is as DER. X is the type of what the run holds.
pub record Fields (X : Type 0) : Type 1 where
  -- what the laws speak of
  pub in_form : X → Type 0
  -- the bytes are a spelling of the run
  pub Spells : List ℕ → X → Type 0
  -- the bytes are what is written
  pub Encodes : List ℕ → X → Type 0
  -- what is written, where the run is in form
  pub encoding : X → List ℕ
  -- the run is refused when it is written
  pub Refused : X → Type 0
  -- how many readers a spelling nests, beside that in which the run stands
  pub height : (s : List ℕ) (x : X) → Spells s x → ℕ
  -- the tags by which a spelling that has bytes may begin
  pub begins : ℕ → Bool
  -- the tags that the run might still take, where they stand just after it
  pub takes_more : ℕ → Bool
  -- what reading gives at a depth: the run and the bytes after it, or the first fault
  pub reading : ℕ → List ℕ → Result (X × List ℕ) DerError

-- ---- no field, and one field

-- no bytes
abbrev pub nothing : Fields (Unit {0})
nothing = record {
  in_form = λ _. Unit {0};
  Spells = λ s _. s ≡ [];
  Encodes = λ s _. s ≡ [];
  encoding = λ _. [];
  Refused = λ _. ⊥;
  height = λ _ _ _. 0;
  begins = λ _. false;
  takes_more = λ _. false;
  reading = λ _ bytes. Ok (tt, bytes);
}

abbrev pub one : {X : Type 0} → Form X → Fields X
one f = record {
  in_form = f.in_form;
  Spells = f.Spells;
  Encodes = f.Encodes;
  encoding = f.encoding;
  Refused = f.Refused;
  height = f.height;
  begins = f.begins;
  takes_more = λ _. false;
  reading = f.reading;
}

-- ---- a field of one value

-- the test holds of this value, and of no other that is in form
pub record Tells {X : Type 0} (in_form : X → Type 0) (x : X) (test : X → Bool) : Type 0 where
  pub formed : in_form x
  pub holds : test x ≡ true
  pub alone : (y : X) → in_form y → test y ≡ true → y ≡ x

unfoldable pub only_at : {X : Type 0} → (X → Bool) → (ℕ → List ℕ → Result (X × List ℕ) DerError) → ℕ → List ℕ → Result (Unit {0} × List ℕ) DerError
only_at test read depth bytes = read depth bytes >>= λ y. if test y.0 then Ok (tt, y.1) else Err BadValue

-- The value x, of which alone the test holds; any other is `BadValue`.
abbrev pub only : {X : Type 0} → X → (X → Bool) → Form X → Fields (Unit {0})
only x test f = record {
  in_form = λ _. Unit {0};
  Spells = λ s _. f.Spells s x;
  Encodes = λ s _. f.Encodes s x;
  encoding = λ _. f.encoding x;
  Refused = λ _. f.Refused x;
  height = λ s _ p. f.height s x p;
  begins = f.begins;
  takes_more = λ _. false;
  reading = only_at test f.reading;
}

-- ---- a field that may be left out

abbrev pub SpellsOptional : {X : Type 0} → (List ℕ → X → Type 0) → List ℕ → Option X → Type 0
SpellsOptional Spells bytes None = bytes ≡ []
SpellsOptional Spells bytes (Some x) = Spells bytes x

abbrev pub optional_encoding : {X : Type 0} → (X → List ℕ) → Option X → List ℕ
optional_encoding encoding None = []
optional_encoding encoding (Some x) = encoding x

abbrev pub OptionalRefused : {X : Type 0} → (X → Type 0) → Option X → Type 0
OptionalRefused Refused None = ⊥
OptionalRefused Refused (Some x) = Refused x

abbrev pub optional_height : {X : Type 0} → (f : Form X) → (s : List ℕ) (o : Option X) → SpellsOptional f.Spells s o → ℕ
optional_height f s None p = 0
optional_height f s (Some x) p = f.height s x p

-- read where the test holds of the next tag, else left out
unfoldable pub optional_at : {X : Type 0} → (ℕ → Bool) → (ℕ → List ℕ → Result (X × List ℕ) DerError) → ℕ → List ℕ → Result (Option X × List ℕ) DerError
optional_at test read depth bytes = if stands_next test bytes then (read depth bytes >>= λ x. Ok (Some x.0, x.1)) else Ok (None, bytes)

-- there where the test holds of the next tag
abbrev pub optional_by : {X : Type 0} → (ℕ → Bool) → Form X → Fields (Option X)
optional_by test f = record {
  in_form = λ o. IfSome o f.in_form;
  Spells = SpellsOptional f.Spells;
  Encodes = SpellsOptional f.Encodes;
  encoding = optional_encoding f.encoding;
  Refused = OptionalRefused f.Refused;
  height = optional_height f;
  begins = f.begins;
  takes_more = test;
  reading = optional_at test f.reading;
}

-- there where the type begins with the next tag
abbrev pub optional : {X : Type 0} → Form X → Fields (Option X)
optional f = optional_by f.begins f

abbrev pub any_tag : ℕ → Bool
any_tag _ = true

-- there where a byte is left
abbrev pub optional_last : {X : Type 0} → Form X → Fields (Option X)
optional_last f = optional_by any_tag f

-- ---- a field with a default

abbrev pub Unless : Bool → Type 0 → Type 0 → Type 0
Unless true P Q = P
Unless false P Q = Q

-- absent, which means d, or spelled
abbrev pub SpellsDefault : {X : Type 0} → X → (List ℕ → X → Type 0) → List ℕ → X → Type 0
SpellsDefault d Spells s x = ((s ≡ []) × (x ≡ d)) ⊎ Spells s x

abbrev pub default_height : {X : Type 0} → (d : X) → (f : Form X) → (s : List ℕ) (x : X) → SpellsDefault d f.Spells s x → ℕ
default_height d f s x (inl p) = 0
default_height d f s x (inr p) = f.height s x p

unfoldable pub default_at : {X : Type 0} → X → (ℕ → Bool) → (ℕ → List ℕ → Result (X × List ℕ) DerError) → ℕ → List ℕ → Result (X × List ℕ) DerError
default_at d test read depth bytes = if stands_next test bytes then read depth bytes else Ok (d, bytes)

-- Absent, and read as d, unless the test holds of the next tag; `left_out` says of which values nothing is written.
abbrev pub defaulting : {X : Type 0} → X → (X → Bool) → (ℕ → Bool) → Form X → Fields X
defaulting d left_out test f = record {
  in_form = f.in_form;
  Spells = SpellsDefault d f.Spells;
  Encodes = λ s x. Unless (left_out x) (s ≡ []) (f.Encodes s x);
  encoding = λ x. if left_out x then [] else f.encoding x;
  Refused = λ x. Unless (left_out x) ⊥ (f.Refused x);
  height = default_height d f;
  begins = f.begins;
  takes_more = test;
  reading = default_at d test f.reading;
}

-- absent for d, of which alone the test holds, and there where the type begins with the next tag
abbrev pub defaulted : {X : Type 0} → X → (X → Bool) → Form X → Fields X
defaulted d is_default f = defaulting d is_default f.begins f

-- ---- a run and then another

-- the bytes are in two parts, of these properties
pub record InParts (P Q : List ℕ → Type 0) (bytes : List ℕ) : Type 0 where
  pub front : List ℕ
  pub is_first : P front
  pub back : List ℕ
  pub is_second : Q back
  pub parts : bytes ≡ front ++ back

abbrev pub then_at : {X Y : Type 0} → (ℕ → List ℕ → Result (X × List ℕ) DerError) → (ℕ → List ℕ → Result (Y × List ℕ) DerError) → ℕ → List ℕ → Result ((X × Y) × List ℕ) DerError
then_at read next depth bytes = read depth bytes >>= λ x. next depth x.1 >>= λ y. Ok ((x.0, y.0), y.1)

infixl 30 ◌and◌
abbrev pub ◌and◌ : {X Y : Type 0} → Fields X → Fields Y → Fields (X × Y)
f and g = record {
  in_form = λ x. f.in_form x.0 × g.in_form x.1;
  Spells = λ s x. InParts (λ s. f.Spells s x.0) (λ s. g.Spells s x.1) s;
  Encodes = λ s x. InParts (λ s. f.Encodes s x.0) (λ s. g.Encodes s x.1) s;
  encoding = λ x. f.encoding x.0 ++ g.encoding x.1;
  Refused = λ x. f.Refused x.0 ⊎ g.Refused x.1;
  height = λ s x p. max (f.height p.front x.0 p.is_first) (g.height p.back x.1 p.is_second);
  begins = λ b. f.begins b || g.begins b;
  takes_more = λ b. f.takes_more b || g.takes_more b;
  reading = then_at f.reading g.reading;
}

-- no tag by which the second run may begin is one that the first might still take
abbrev pub Apart : {X Y : Type 0} → Fields X → Fields Y → Type 0
Apart f g = (b : ℕ) → g.begins b ≡ true → f.takes_more b ≡ false

-- ---- a run seen as another type, where several of its values may mean one

-- some value in form that means this one is spelled
pub record SpellsSeen {X Y : Type 0} (in_form : X → Type 0) (Spells : List ℕ → X → Type 0) (to : X → Y) (s : List ℕ) (y : Y) : Type 0 where
  pub value : X
  pub formed : in_form value
  pub spelled : Spells s value
  pub means : to value ≡ y

abbrev pub seen_at : {X Y : Type 0} → (X → Y) → (ℕ → List ℕ → Result (X × List ℕ) DerError) → ℕ → List ℕ → Result (Y × List ℕ) DerError
seen_at to read depth bytes = read depth bytes >>= λ x. Ok (to x.0, x.1)

-- The run f, of which each value x is seen as `to x`; y is written as `from y`.
abbrev pub seen : {X Y : Type 0} → (X → Y) → (Y → X) → Fields X → Fields Y
seen to from f = record {
  in_form = λ y. f.in_form (from y);
  Spells = SpellsSeen f.in_form f.Spells to;
  Encodes = λ s y. f.Encodes s (from y);
  encoding = λ y. f.encoding (from y);
  Refused = λ y. f.Refused (from y);
  height = λ s y p. f.height s p.value p.spelled;
  begins = f.begins;
  takes_more = f.takes_more;
  reading = seen_at to f.reading;
}

-- what is written of a value in form means it, and what is read is in form
pub record Sees {X Y : Type 0} (in_form : X → Type 0) (to : X → Y) (from : Y → X) : Type 0 where
  pub back : (y : Y) → in_form (from y) → to (from y) ≡ y
  pub formed : (x : X) → in_form x → in_form (from (to x))

-- ---- the value around a run

pub record Encloses (tag : Tag) (P : List ℕ → Type 0) (bytes : List ℕ) : Type 0 where
  pub contents : List ℕ
  pub fields : P contents
  pub value : IsValue tag contents bytes

-- the run, and nothing after it
unfoldable pub run_at : {X : Type 0} → (ℕ → List ℕ → Result (X × List ℕ) DerError) → ℕ → List ℕ → Result X DerError
run_at read depth bytes = read depth bytes >>= λ x. end_at x.1 >>= λ _. Ok x.0

unfoldable pub enclosed_at : {X : Type 0} → Tag → (ℕ → List ℕ → Result (X × List ℕ) DerError) → ℕ → List ℕ → Result (X × List ℕ) DerError
enclosed_at tag read depth bytes = nested_at tag depth bytes >>= λ v. run_at read (depth + 1) v.0 >>= λ x. Ok (x, v.1)

-- A constructed value of this tag that holds the run and nothing more.
abbrev pub enclosed : {X : Type 0} → Tag → Fields X → Form X
enclosed tag f = record {
  in_form = f.in_form;
  Spells = λ s x. Encloses tag (λ c. f.Spells c x) s;
  Encodes = λ s x. Encloses tag (λ c. f.Encodes c x) s;
  encoding = λ x. value_of tag.0 (f.encoding x);
  Refused = f.Refused;
  height = λ s x p. 1 + f.height p.contents x p.fields;
  begins = λ b. b == tag.0;
  reading = enclosed_at tag f.reading;
}

abbrev pub sequence : {X : Type 0} → Fields X → Form X
sequence f = enclosed (record { 0 = 48 }) f

-- one value in an explicit tag with this number, which is below 16
unfoldable pub explicit : {X : Type 0} → ℕ → Form X → Form X
explicit n f = enclosed (record { 0 = 160 + n }) (one f)

-- ---- plain types that records hold

abbrev pub identifier : Form (List ℕ)
identifier = primitive_form (record { 0 = 6 }) identifier_contents

abbrev pub integer : Form (List ℕ)
integer = primitive_form (record { 0 = 2 }) integer_contents

-- an INTEGER below the limit
abbrev pub natural : ℕ → Form ℕ
natural limit = primitive_form (record { 0 = 2 }) (natural_contents limit)

abbrev pub text : Form (List ℕ)
text = primitive_form (record { 0 = 12 }) utf8_contents

abbrev pub octet_string : Form (List ℕ)
octet_string = primitive_form (record { 0 = 4 }) octets_contents

abbrev pub null : Form (Unit {0})
null = primitive_form (record { 0 = 5 }) null_contents

-- NULL, which may be absent and is written, at the end of a run
abbrev pub null_or_none : Fields (Unit {0})
null_or_none = defaulting tt (λ _. false) any_tag null
