-- Types of one tag whose values hold no further values: contents octets that stand for a value (X.690 sections 8.2, 8.3, 8.6 to 8.8, 8.19, 8.23, 11.7, 11.8).
use Rattle.std.specs.Prelude.{◌≡◌, ℕ, ◌==◌, List, Result, Ok}
use Rattle.picky_asn1_tag.specs.declared.tag.Tag.{Tag}
use Rattle.picky_der.specs.declared.fault.DerError.{DerError}
use Rattle.picky_der.specs.Length.{IsBytes, value_of}
use Rattle.picky_der.specs.Reading.{◌>>=◌, value_at}
use Rattle.picky_der.specs.Form.{Form, IsValue}

-- What the contents octets of a type are.
pub record Contents (X : Type 0) : Type 1 where
  -- the values of which the laws speak; each has contents octets
  pub in_form : X → Type 0
  -- the octets stand for the value
  pub Octets : List ℕ → X → Type 0
  -- the octets of a value in form
  pub octets : X → List ℕ
  -- the value for which octets stand, or the fault
  pub decode : List ℕ → Result X DerError

-- The laws of contents octets.
pub record Decodes {X : Type 0} (k : Contents X) : Type 0 where
  -- octets that are decoded stand for the value
  pub takes : (octets : List ℕ) (x : X) → IsBytes octets → k.decode octets ≡ Ok x → k.in_form x × k.Octets octets x
  -- octets that stand for a value are decoded to it
  pub again : (octets : List ℕ) (x : X) → k.in_form x → k.Octets octets x → k.decode octets ≡ Ok x
  -- the octets of a value in form stand for it
  pub has_octets : (x : X) → k.in_form x → k.Octets (k.octets x) x
  -- a value has one list of octets
  pub one : (s t : List ℕ) (x : X) → k.in_form x → k.Octets s x → k.Octets t x → s ≡ t

-- the bytes are a value of this tag whose contents stand for x
pub record SpellsPrimitive {X : Type 0} (tag : Tag) (Octets : List ℕ → X → Type 0) (bytes : List ℕ) (x : X) : Type 0 where
  pub octets : List ℕ
  pub value : IsValue tag octets bytes
  pub stands_for : Octets octets x

-- a value of this tag, and then what its contents stand for
unfoldable pub primitive_at : {X : Type 0} → Tag → (List ℕ → Result X DerError) → ℕ → List ℕ → Result (X × List ℕ) DerError
primitive_at tag decode depth bytes = value_at tag bytes >>= λ v. decode v.0 >>= λ x. Ok (x, v.1)

-- A type of this tag with these contents octets: each value in form is written.
abbrev pub primitive_form : {X : Type 0} → Tag → Contents X → Form X
primitive_form tag k = record {
  in_form = k.in_form;
  Spells = SpellsPrimitive tag k.Octets;
  height = λ _ _ _. 0;
  Encodes = λ s x. k.in_form x × SpellsPrimitive tag k.Octets s x;
  encoding = λ x. value_of tag.0 (k.octets x);
  Refused = λ x. ¬ k.in_form x;
  begins = λ b. b == tag.0;
  reading = primitive_at tag k.decode;
}
