-- One value of a type under another tag (X.690 section 8.14.3; the tag is primitive around every type, which is own).
use Rattle.std.specs.Prelude.{◌≡◌, ℕ, ◌==◌, List, ◌∷◌, drop, Result, Ok}
use Rattle.picky_asn1_tag.specs.declared.tag.Tag.{Tag}
use Rattle.picky_der.specs.declared.fault.DerError.{DerError}
use Rattle.picky_der.specs.Length.{value_of}
use Rattle.picky_der.specs.Reading.{◌>>=◌, value_at}
use Rattle.picky_der.specs.Form.{Form}

-- a value of the outer tag, read as one of the inner tag with the same contents
unfoldable pub implicit_at : {X : Type 0} → Tag → Tag → (ℕ → List ℕ → Result (X × List ℕ) DerError) → ℕ → List ℕ → Result (X × List ℕ) DerError
implicit_at outer inner read depth bytes = value_at outer bytes >>= λ v. read depth (value_of inner.0 v.0) >>= λ x. Ok (x.0, v.1)

-- the bytes are a spelling with its first byte replaced by the outer tag
pub record SpellsImplicit {X : Type 0} (outer : Tag) (Spells : List ℕ → X → Type 0) (bytes : List ℕ) (x : X) : Type 0 where
  pub spelling : List ℕ
  pub spelled : Spells spelling x
  pub bytes_are : bytes ≡ outer.0 ∷ drop 1 spelling

-- A value of a type whose tag is the inner one, under the outer one.
abbrev pub implicit_form : {X : Type 0} → Tag → Tag → Form X → Form X
implicit_form outer inner f = record {
  in_form = f.in_form;
  Spells = SpellsImplicit outer f.Spells;
  height = λ s x p. f.height p.spelling x p.spelled;
  Encodes = SpellsImplicit outer f.Encodes;
  encoding = λ x. outer.0 ∷ drop 1 (f.encoding x);
  Refused = f.Refused;
  begins = λ b. b == outer.0;
  reading = implicit_at outer inner f.reading;
}
