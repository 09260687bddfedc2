-- What is told by a key, such as an object identifier, that stands in front of it, and what is told by its tag (X.680 CHOICE; own).
use Rattle.std.specs.Prelude.{◌≡◌, ℕ, ◌||◌, max, Bool, false, if◌then◌else◌, List, ◌++◌, Result, Ok, ◌⊎◌}
use Rattle.std.proofs.Common.{inl, inr}
use Rattle.std.specs.Str.{bytes_eq}
use Rattle.picky_asn1_oid.specs.Arcs.{contents_of}
use Rattle.picky_der.specs.declared.fault.DerError.{DerError}
use Rattle.picky_der.specs.Reading.{◌>>=◌, tag_at}
use Rattle.picky_der.specs.Form.{Form}
use Rattle.picky_fields.specs.Fields.{Fields, InParts}

-- What may stand after a key. Y is the type of the key with what stands after it.
pub record Cases (K Y : Type 0) : Type 1 where
  -- the key of a value
  pub key : Y → K
  -- what the laws speak of, beside the key
  pub in_form : Y → Type 0
  -- the bytes after the key are a spelling, or what is written
  pub Spells : List ℕ → Y → Type 0
  pub Encodes : List ℕ → Y → Type 0
  pub encoding : Y → List ℕ
  pub Refused : Y → Type 0
  pub height : (s : List ℕ) (y : Y) → Spells s y → ℕ
  pub takes_more : ℕ → Bool
  -- what reading gives after a key
  pub reading : K → ℕ → List ℕ → Result (Y × List ℕ) DerError

-- ---- after any other key

abbrev pub other_at : {K X : Type 0} → (ℕ → List ℕ → Result (X × List ℕ) DerError) → K → ℕ → List ℕ → Result ((K × X) × List ℕ) DerError
other_at read k depth bytes = read depth bytes >>= λ x. Ok ((k, x.0), x.1)

-- after any key a run of one kind, which is kept with its key
abbrev pub otherwise : {K X : Type 0} → Fields X → Cases K (K × X)
otherwise f = record {
  key = λ y. y.0;
  in_form = λ y. f.in_form y.1;
  Spells = λ s y. f.Spells s y.1;
  Encodes = λ s y. f.Encodes s y.1;
  encoding = λ y. f.encoding y.1;
  Refused = λ y. f.Refused y.1;
  height = λ s y p. f.height s y.1 p;
  takes_more = f.takes_more;
  reading = other_at f.reading;
}

-- ---- after one key

abbrev pub key_of : {K X Z : Type 0} → K → (Z → K) → X ⊎ Z → K
key_of id rest (inl x) = id
key_of id rest (inr z) = rest z

-- of the other values, those whose key isn't this one
abbrev pub CaseFormed : {K X Z : Type 0} → (K → Bool) → (X → Type 0) → (Z → K) → (Z → Type 0) → X ⊎ Z → Type 0
CaseFormed test P key Q (inl x) = P x
CaseFormed test P key Q (inr z) = Q z × (test (key z) ≡ false)

abbrev pub OneOf : {X Z : Type 0} → (List ℕ → X → Type 0) → (List ℕ → Z → Type 0) → List ℕ → X ⊎ Z → Type 0
OneOf P Q s (inl x) = P s x
OneOf P Q s (inr z) = Q s z

abbrev pub OneRefused : {X Z : Type 0} → (X → Type 0) → (Z → Type 0) → X ⊎ Z → Type 0
OneRefused P Q (inl x) = P x
OneRefused P Q (inr z) = Q z

abbrev pub encoding_of : {X Z : Type 0} → (X → List ℕ) → (Z → List ℕ) → X ⊎ Z → List ℕ
encoding_of f g (inl x) = f x
encoding_of f g (inr z) = g z

abbrev pub height_of : {X Z : Type 0} {P : List ℕ → X → Type 0} {Q : List ℕ → Z → Type 0} → ((s : List ℕ) (x : X) → P s x → ℕ) → ((s : List ℕ) (z : Z) → Q s z → ℕ) → (s : List ℕ) (y : X ⊎ Z) → OneOf P Q s y → ℕ
height_of h k s (inl x) p = h s x p
height_of h k s (inr z) p = k s z p

abbrev pub case_at : {K X Z : Type 0} → (K → Bool) → (ℕ → List ℕ → Result (X × List ℕ) DerError) → (K → ℕ → List ℕ → Result (Z × List ℕ) DerError) → K → ℕ → List ℕ → Result ((X ⊎ Z) × List ℕ) DerError
case_at test read next k depth bytes =
    if test k then (read depth bytes >>= λ x. Ok (inl x.0, x.1)) else (next k depth bytes >>= λ z. Ok (inr z.0, z.1))

-- after the key of which the test holds a run of one kind, after others what `rest` says
abbrev pub case : {K X Z : Type 0} → K → (K → Bool) → Fields X → Cases K Z → Cases K (X ⊎ Z)
case id test f rest = record {
  key = key_of id rest.key;
  in_form = CaseFormed test f.in_form rest.key rest.in_form;
  Spells = OneOf f.Spells rest.Spells;
  Encodes = OneOf f.Encodes rest.Encodes;
  encoding = encoding_of f.encoding rest.encoding;
  Refused = OneRefused f.Refused rest.Refused;
  height = height_of f.height rest.height;
  takes_more = λ b. f.takes_more b || rest.takes_more b;
  reading = case_at test f.reading rest.reading;
}

-- ---- a key and what stands after it

abbrev pub told_at : {K Y : Type 0} → (ℕ → List ℕ → Result (K × List ℕ) DerError) → (K → ℕ → List ℕ → Result (Y × List ℕ) DerError) → ℕ → List ℕ → Result (Y × List ℕ) DerError
told_at read next depth bytes = read depth bytes >>= λ k. next k.0 depth k.1

abbrev pub told_by : {K Y : Type 0} → Form K → Cases K Y → Fields Y
told_by f c = record {
  in_form = λ y. f.in_form (c.key y) × c.in_form y;
  Spells = λ s y. InParts (λ s. f.Spells s (c.key y)) (λ s. c.Spells s y) s;
  Encodes = λ s y. InParts (λ s. f.Encodes s (c.key y)) (λ s. c.Encodes s y) s;
  encoding = λ y. f.encoding (c.key y) ++ c.encoding y;
  Refused = λ y. f.Refused (c.key y) ⊎ c.Refused y;
  height = λ s y p. max (f.height p.front (c.key y) p.is_first) (c.height p.back y p.is_second);
  begins = f.begins;
  takes_more = c.takes_more;
  reading = told_at f.reading c.reading;
}

-- the identifier with these arcs has these contents octets
abbrev pub has_contents : List ℕ → List ℕ → Bool
has_contents bytes arcs = bytes_eq (contents_of arcs) bytes

-- ---- one type or another, told by the tag

-- the first where the test holds of the next tag, else the second, whose faults count
abbrev pub either_by : {X Z : Type 0} → (ℕ → Bool) → (ℕ → List ℕ → Result (X × List ℕ) DerError) → (ℕ → List ℕ → Result (Z × List ℕ) DerError) → ℕ → List ℕ → ℕ → Result ((X ⊎ Z) × List ℕ) DerError
either_by test read next depth bytes tag =
    if test tag then (read depth bytes >>= λ x. Ok (inl x.0, x.1)) else (next depth bytes >>= λ z. Ok (inr z.0, z.1))

unfoldable pub either_at : {X Z : Type 0} → (ℕ → Bool) → (ℕ → List ℕ → Result (X × List ℕ) DerError) → (ℕ → List ℕ → Result (Z × List ℕ) DerError) → ℕ → List ℕ → Result ((X ⊎ Z) × List ℕ) DerError
either_at test read next depth bytes = tag_at bytes >>= λ tag. either_by test read next depth bytes tag

abbrev pub either : {X Z : Type 0} → Form X → Form Z → Form (X ⊎ Z)
either f g = record {
  in_form = OneRefused f.in_form g.in_form;
  Spells = OneOf f.Spells g.Spells;
  Encodes = OneOf f.Encodes g.Encodes;
  encoding = encoding_of f.encoding g.encoding;
  Refused = OneRefused f.Refused g.Refused;
  height = height_of f.height g.height;
  begins = λ b. f.begins b || g.begins b;
  reading = either_at f.begins f.reading g.reading;
}
