-- What the values of a type are as DER: which are in form, what spells them, their encodings, what is written and what is read (X.690 sections 8.1.1 and 10; the laws are own).
use Rattle.std.specs.Prelude.{◌≡◌, ◌≢◌, ℕ, ◌%◌, ◌<◌, ◌≤◌, ◌^◌, ◌==◌, Bool, true, List, [], ◌∷◌, ◌++◌, length, Result, Ok, Err, ◌⊎◌}
use Rattle.picky_asn1_tag.specs.declared.tag.Tag.{Tag}
use Rattle.picky_der.specs.declared.fault.DerError.{DerError}
use Rattle.picky_der.specs.declared.fault.DerError.TheVariants.{Truncated, BadValue, TooDeep, OutOfMemory}
use Rattle.picky_der.specs.Length.{TailIsBytes, value_of}
use Rattle.picky_der.specs.Reading.{◌>>=◌, within, end_at}

-- ---- one value

-- the bytes are one value of this tag with these contents
pub record IsValue (tag : Tag) (contents bytes : List ℕ) : Type 0 where
  pub one_byte : tag.0 % 32 ≢ 31
  pub fits : length contents < 2 ^ 64
  pub bytes_are : bytes ≡ value_of tag.0 contents

-- the bytes are one value, of some tag of one byte
pub record IsOneValue (bytes : List ℕ) : Type 0 where
  pub tag : Tag
  pub contents : List ℕ
  pub value : IsValue tag contents bytes

-- the first byte is a tag that passes the test
abbrev pub BeginsBy : (ℕ → Bool) → List ℕ → Type 0
BeginsBy test [] = ⊥
BeginsBy test (b ∷ bs) = test b ≡ true

-- ---- a type

-- What a type is as DER. X is the type of its abstract values.
pub record Form (X : Type 0) : Type 1 where
  -- the values of which the laws speak
  pub in_form : X → Type 0
  -- the bytes are a spelling of the value
  pub Spells : List ℕ → X → Type 0
  -- How many readers are nested in one another, in the reader that stands at a spelling, to read it: none where the contents
  -- are read as they stand, or the value is kept as its bytes; one more than the greatest height among the spellings in the
  -- contents, where a reader goes through them. It is of the spelling and not of the value, since one value may be spelled
  -- more or less deep, as an explicit default and one that is left out.
  pub height : (s : List ℕ) (x : X) → Spells s x → ℕ
  -- the bytes are the encoding of the value, which is written
  pub Encodes : List ℕ → X → Type 0
  -- the encoding of a value: tag, length and contents; it counts for values in form, and others that are written, whose encoding is shorter than 2^64 bytes
  pub encoding : X → List ℕ
  -- the value is refused when it is written, whatever memory there is
  pub Refused : X → Type 0
  -- the tags by which a spelling may begin
  pub begins : ℕ → Bool
  -- what reading gives at a depth: the value and the bytes after it, or the first fault
  pub reading : ℕ → List ℕ → Result (X × List ℕ) DerError

-- in front of the bytes stands a spelling of a value in form, and then the rest
pub record Takes {X : Type 0} (in_form : X → Type 0) (Spells : List ℕ → X → Type 0) (bytes : List ℕ) (x : X) (rest : List ℕ) : Type 0 where
  pub formed : in_form x
  pub spelling : List ℕ
  pub spelled : Spells spelling x
  pub parts : bytes ≡ spelling ++ rest

-- The laws of reading a type.
pub record Readable {X : Type 0} (f : Form X) : Type 0 where
  -- a spelling of a value in form is one value
  pub one_value : (s : List ℕ) (x : X) → f.in_form x → f.Spells s x → IsOneValue s
  -- no spelling is a proper prefix of another, and one spelling has one value
  pub prefix_free : (x y : X) (s t a b : List ℕ) → f.in_form x → f.in_form y → f.Spells s x → f.Spells t y → s ++ a ≡ t ++ b → (s ≡ t) × (x ≡ y)
  -- what is read is the value in form whose spelling stands there, and reading ends just past it
  pub takes : (depth : ℕ) (bytes : List ℕ) (x : X) (rest : List ℕ) → TailIsBytes bytes → f.reading depth bytes ≡ Ok (x, rest) → Takes f.in_form f.Spells bytes x rest
  -- where a spelling stands, reading gives its value, and `TooDeep` exactly where depth and height are above 256 together
  pub again : (depth : ℕ) (s rest : List ℕ) (x : X) → f.in_form x → (p : f.Spells s x) → f.reading depth (s ++ rest) ≡ within depth (f.height s x p) (x, rest)
  -- reading takes a byte
  pub shorter : (depth : ℕ) (bytes : List ℕ) (x : X) (rest : List ℕ) → f.reading depth bytes ≡ Ok (x, rest) → length rest < length bytes
  -- `begins` holds of the first byte of every spelling
  pub first : (s : List ℕ) (x : X) → f.in_form x → f.Spells s x → BeginsBy f.begins s
  -- a proper prefix of a spelling lacks a byte
  pub cut : (depth : ℕ) (front back : List ℕ) (x : X) → f.in_form x → f.Spells (front ++ back) x → back ≢ [] → f.reading depth front ≡ Err Truncated
  -- any other fault is the fault whatever bytes follow
  pub stays : (depth : ℕ) (bytes more : List ℕ) (e : DerError) → e ≢ Truncated → f.reading depth bytes ≡ Err e → f.reading depth (bytes ++ more) ≡ Err e

-- The laws of writing a type.
pub record Writable {X : Type 0} (f : Form X) : Type 0 where
  -- the encoding of a value in form is a spelling of it
  pub encodes : (s : List ℕ) (x : X) → f.in_form x → f.Encodes s x → f.Spells s x
  -- an encoding is one value
  pub written : (s : List ℕ) (x : X) → f.Encodes s x → IsOneValue s
  -- what is written is the encoding of the value, so that no value has two
  pub is_encoding : (s : List ℕ) (x : X) → f.Encodes s x → s ≡ f.encoding x
  -- each value in form is written, but one whose encoding doesn't fit 2^64 bytes
  pub has_encoding : (x : X) → f.in_form x → length (f.encoding x) < 2 ^ 64 → f.Encodes (f.encoding x) x
  -- a value that has an encoding isn't refused
  pub not_refused : (s : List ℕ) (x : X) → f.Encodes s x → f.Refused x → ⊥
  -- a value in form isn't refused
  pub accepted : (x : X) → f.in_form x → f.Refused x → ⊥

-- The laws of a type that is written under one tag.
pub record Tagged {X : Type 0} (tag : Tag) (f : Form X) : Type 0 where
  -- every spelling begins with the tag
  pub first : (s : List ℕ) (x : X) → f.in_form x → f.Spells s x → BeginsBy (λ b. b == tag.0) s
  -- no other tag begins one
  pub no_other : (b : ℕ) → f.begins b ≡ (b == tag.0)

-- ---- laws by name

-- What is written of a value in form is a spelling of it, and one value; where it stands, it is read back as deep as its height allows.
pub record ReadsBack {X : Type 0} (f : Form X) : Type 0 where
  pub spelled : (s : List ℕ) (x : X) → f.in_form x → f.Encodes s x → f.Spells s x
  pub one_value : (s : List ℕ) (x : X) → f.Encodes s x → IsOneValue s
  pub read : (depth : ℕ) (s rest : List ℕ) (x : X) (g : f.in_form x) (e : f.Encodes s x) → f.reading depth (s ++ rest) ≡ within depth (f.height s x (spelled s x g e)) (x, rest)

-- each value that is written is in form
abbrev pub IsWrittenInForm : {X : Type 0} → Form X → Type 0
IsWrittenInForm {X = X} f = (s : List ℕ) (x : X) → f.Encodes s x → f.in_form x

-- where a spelling stands, it is read exactly as deep as its height allows
abbrev pub IsReadWithinHeight : {X : Type 0} → Form X → Type 0
IsReadWithinHeight {X = X} f = (depth : ℕ) (s rest : List ℕ) (x : X) → f.in_form x → (p : f.Spells s x) → f.reading depth (s ++ rest) ≡ within depth (f.height s x p) (x, rest)

-- no spelling has a greater height than this
abbrev pub NestsAtMost : {X : Type 0} → ℕ → Form X → Type 0
NestsAtMost {X = X} most f = (s : List ℕ) (x : X) (p : f.Spells s x) → f.height s x p ≤ most

-- a proper prefix of a spelling lacks a byte
abbrev pub CutIsTruncated : {X : Type 0} → Form X → Type 0
CutIsTruncated {X = X} f = (depth : ℕ) (front back : List ℕ) (x : X) → f.in_form x → f.Spells (front ++ back) x → back ≢ [] → f.reading depth front ≡ Err Truncated

-- any other fault is the fault whatever bytes follow
abbrev pub FaultsStay : {X : Type 0} → Form X → Type 0
FaultsStay f = (depth : ℕ) (bytes more : List ℕ) (e : DerError) → e ≢ Truncated → f.reading depth bytes ≡ Err e → f.reading depth (bytes ++ more) ≡ Err e

-- ---- what calls answer

-- one value, and nothing after it
unfoldable pub whole : {X : Type 0} → (ℕ → List ℕ → Result (X × List ℕ) DerError) → List ℕ → Result X DerError
whole read bytes = read 0 bytes >>= λ x. end_at x.1 >>= λ _. Ok x.0

-- the new bytes are the old ones, and then an encoding
pub record Appends (Encodes : List ℕ → Type 0) (old new : List ℕ) : Type 0 where
  pub encoding : List ℕ
  pub encoded : Encodes encoding
  pub new_is : new ≡ old ++ encoding

-- A call that writes: it added an encoding at the end; or it wanted memory, or the value is refused, and it added nothing.
abbrev pub Writes : (List ℕ → Type 0) → Type 0 → Result (Unit {0}) DerError → List ℕ → List ℕ → Type 0
Writes Encodes Refused (Ok _) old new = Appends Encodes old new
Writes Encodes Refused (Err e) old new = ((e ≡ OutOfMemory) ⊎ ((e ≡ BadValue) × Refused)) × (new ≡ old)

-- A value whose spelling has this height was read by a reader nested in none: it was answered, or the height is above 256 and the fault is `TooDeep`, or memory ran out.
abbrev pub OkUnlessDeep : {X Y : Type 0} → (X → Y) → ℕ → Result X DerError → Y → Type 0
OkUnlessDeep view height (Ok x) y = (view x ≡ y) × (height ≤ 256)
OkUnlessDeep view height (Err TooDeep) y = 256 < height
OkUnlessDeep view height (Err OutOfMemory) y = Unit {0}
OkUnlessDeep view height (Err _) y = ⊥

-- What is seen of the result, where there is one, is this.
abbrev pub OkIs : {X Y : Type 0} → (X → Y) → Result X DerError → Y → Type 0
OkIs view (Ok x) y = view x ≡ y
OkIs view (Err e) y = ⊥
