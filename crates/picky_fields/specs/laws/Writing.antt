-- Steps of writing a run, field by field, and the value around it.
use Rattle.std.proofs.Common.{◌≡◌, List, ℕ, [], ◌++◌, Result, Ok, Err, sym, ap, subst, ◌∙◌, inl, inr}
use Rattle.picky_asn1_tag.specs.declared.tag.Tag.{Tag}
use Rattle.picky_der.specs.declared.fault.DerError.{DerError}
use Rattle.picky_der.specs.Form.{IsValue, Appends, Writes}
use Rattle.picky_fields.specs.Fields.{InParts, Encloses}

-- the first field, written into nothing
pub first_wrote : (P : List ℕ → Type 0) (old new : List ℕ) → old ≡ [] → Appends P old new → P new
first_wrote P old new none a =
    let new-is : new ≡ a.encoding = a.new_is ∙ ap (λ (t : List ℕ). t ++ a.encoding) none in
    subst P (sym new-is) a.encoded

-- one field more
pub and_wrote : (P Q : List ℕ → Type 0) (old new : List ℕ) → P old → Appends Q old new → InParts P Q new
and_wrote P Q old new h a = record { front = old; is_first = h; back = a.encoding; is_second = a.encoded; parts = a.new_is }

-- the value around what was written
pub enclosed_writes : (tag : Tag) (P : List ℕ → Type 0) (R : Type 0) (c d : List ℕ) (r : Result (Unit {0}) DerError) (old new : List ℕ) → P c → d ≡ c → Writes (IsValue tag d) ⊥ r old new → Writes (λ s. Encloses tag P s) R r old new
enclosed_writes tag P R c d (Ok u) old new h e w =
    record { encoding = w.encoding; encoded = record { contents = d; fields = subst P (sym e) h; value = w.encoded }; new_is = w.new_is }
enclosed_writes tag P R c d (Err f) old new h e w =
    (elim w.0 [ inl m ↦ inl m | inr b ↦ absurd b.1 ], w.1)
