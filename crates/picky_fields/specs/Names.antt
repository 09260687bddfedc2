-- What is told by one of several keys that have names, such as the identifiers of hash functions (own).
use Rattle.std.specs.Prelude.{◌≡◌, ℕ, ◌||◌, List, Option, Some, None, Result, Ok, ◌⊎◌}
use Rattle.std.proofs.Common.{inl, inr}
use Rattle.picky_der.specs.declared.fault.DerError.{DerError}
use Rattle.picky_der.specs.Reading.{◌>>=◌}
use Rattle.picky_fields.specs.Fields.{Fields}
use Rattle.picky_fields.specs.Choice.{Cases, OneOf, OneRefused, encoding_of, height_of}

-- each name has a key, and is the name of this key alone, among keys in form
pub record Names {K N : Type 0} (in_form : K → Type 0) (key : N → K) (name : K → Option N) : Type 0 where
  pub formed : (n : N) → in_form (key n)
  pub named : (n : N) → name (key n) ≡ Some n
  pub alone : (k : K) (n : N) → in_form k → name k ≡ Some n → k ≡ key n

abbrev pub key_among : {K N X Z : Type 0} → (N → K) → (Z → K) → (N × X) ⊎ Z → K
key_among key rest (inl x) = key x.0
key_among key rest (inr z) = rest z

-- of the other values, those whose key has no name
abbrev pub AmongFormed : {K N X Z : Type 0} → (K → Option N) → (X → Type 0) → (Z → K) → (Z → Type 0) → (N × X) ⊎ Z → Type 0
AmongFormed name P key Q (inl x) = P x.1
AmongFormed name P key Q (inr z) = Q z × (name (key z) ≡ None)

abbrev pub named_at : {K N X Z : Type 0} → Option N → (ℕ → List ℕ → Result (X × List ℕ) DerError) → (K → ℕ → List ℕ → Result (Z × List ℕ) DerError) → K → ℕ → List ℕ → Result (((N × X) ⊎ Z) × List ℕ) DerError
named_at (Some n) read next k depth bytes = read depth bytes >>= λ x. Ok (inl (n, x.0), x.1)
named_at None read next k depth bytes = next k depth bytes >>= λ z. Ok (inr z.0, z.1)

-- after a key that has a name a run of one kind, after others what `rest` says
abbrev pub among : {K N X Z : Type 0} → (N → K) → (K → Option N) → Fields X → Cases K Z → Cases K ((N × X) ⊎ Z)
among {N = N} {X = X} key name f rest = record {
  key = key_among key rest.key;
  in_form = AmongFormed name f.in_form rest.key rest.in_form;
  Spells = OneOf (λ s (x : N × X). f.Spells s x.1) rest.Spells;
  Encodes = OneOf (λ s (x : N × X). f.Encodes s x.1) rest.Encodes;
  encoding = encoding_of (λ (x : N × X). f.encoding x.1) rest.encoding;
  Refused = OneRefused (λ (x : N × X). f.Refused x.1) rest.Refused;
  height = height_of (λ s (x : N × X) p. f.height s x.1 p) rest.height;
  takes_more = λ b. f.takes_more b || rest.takes_more b;
  reading = λ k depth bytes. named_at (name k) f.reading rest.reading k depth bytes;
}
