-- One value of a type as the contents of another value: explicit tags (X.690 section 8.14.2) and containers (own).
use Rattle.std.specs.Prelude.{ℕ, ◌+◌, ◌%◌, ◌==◌, List, ◌∷◌, Result, Ok}
use Rattle.picky_asn1_tag.specs.declared.tag.Tag.{Tag}
use Rattle.picky_der.specs.declared.fault.DerError.{DerError}
use Rattle.picky_der.specs.Length.{value_of}
use Rattle.picky_der.specs.Reading.{◌>>=◌, nested_at, nested_bits_at, end_at}
use Rattle.picky_der.specs.Form.{Form, IsValue}

-- the constructed tag of a context with this number modulo 16: A0 to AF
abbrev pub explicit_tag : ℕ → Tag
explicit_tag n = record { 0 = 160 + n % 16 }

-- the primitive tag of a context with this number modulo 16: 80 to 8F
abbrev pub implicit_tag : ℕ → Tag
implicit_tag n = record { 0 = 128 + n % 16 }

-- one value up to the end of what a nested reader has, and then the bytes after the outer value
abbrev pub alone_in : {X : Type 0} → (List ℕ → Result (X × List ℕ) DerError) → List ℕ × List ℕ → Result (X × List ℕ) DerError
alone_in read v = read v.0 >>= λ x. end_at x.1 >>= λ _. Ok (x.0, v.1)

-- a value of this tag that holds one value and nothing more
unfoldable pub enclosed_at : {X : Type 0} → Tag → (ℕ → List ℕ → Result (X × List ℕ) DerError) → ℕ → List ℕ → Result (X × List ℕ) DerError
enclosed_at tag read depth bytes = nested_at tag depth bytes >>= λ v. alone_in (read (depth + 1)) v

pub record SpellsEnclosed {X : Type 0} (tag : Tag) (Spells : List ℕ → X → Type 0) (bytes : List ℕ) (x : X) : Type 0 where
  pub contents : List ℕ
  pub value : IsValue tag contents bytes
  pub inner : Spells contents x

-- A value of a type in a value of this tag.
abbrev pub enclosed_form : {X : Type 0} → Tag → Form X → Form X
enclosed_form tag f = record {
  in_form = f.in_form;
  Spells = SpellsEnclosed tag f.Spells;
  height = λ s x p. 1 + f.height p.contents x p.inner;
  Encodes = SpellsEnclosed tag f.Encodes;
  encoding = λ x. value_of tag.0 (f.encoding x);
  Refused = f.Refused;
  begins = λ b. b == tag.0;
  reading = enclosed_at tag f.reading;
}

-- a BIT STRING of whole bytes that are one value and nothing more
unfoldable pub bits_at : {X : Type 0} → Tag → (ℕ → List ℕ → Result (X × List ℕ) DerError) → ℕ → List ℕ → Result (X × List ℕ) DerError
bits_at tag read depth bytes = nested_bits_at tag depth bytes >>= λ v. alone_in (read (depth + 1)) v

-- the contents are the count 00 of unused bits and then a spelling
pub record SpellsBits {X : Type 0} (tag : Tag) (Spells : List ℕ → X → Type 0) (bytes : List ℕ) (x : X) : Type 0 where
  pub contents : List ℕ
  pub value : IsValue tag (0 ∷ contents) bytes
  pub inner : Spells contents x

-- A value of a type in a BIT STRING of this tag.
abbrev pub bits_form : {X : Type 0} → Tag → Form X → Form X
bits_form tag f = record {
  in_form = f.in_form;
  Spells = SpellsBits tag f.Spells;
  height = λ s x p. 1 + f.height p.contents x p.inner;
  Encodes = SpellsBits tag f.Encodes;
  encoding = λ x. value_of tag.0 (0 ∷ f.encoding x);
  Refused = f.Refused;
  begins = λ b. b == tag.0;
  reading = bits_at tag f.reading;
}
