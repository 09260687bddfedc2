-- Lists of values that stand for themselves, which generic calls see item by item.
use Rattle.std.proofs.Common.{◌≡◌, ℕ, List, Result, Ok, Err, Option, Some, None, map, refl, sym, ap, subst, ◌∙◌}
use Rattle.std.specs.Option.{option_map}
use Rattle.std.proofs.lemmas.List.{map-id}
use Rattle.picky_der.specs.declared.fault.DerError.{DerError}
use Rattle.picky_der.specs.View.{Place}
use Rattle.picky_der.specs.Reading.{Reads}
use Rattle.picky_der.specs.Form.{Writes}
use Rattle.picky_fields.specs.Fields.{SpellsOptional, OptionalRefused}

abbrev each : {X : Type 0} → List X → List X
each {X = X} xs = map (λ (x : X). x) xs

-- a list whose items mean what those of another do is the other
pub same_items : {X : Type 0} (xs ys : List X) → each xs ≡ each ys → xs ≡ ys
same_items xs ys e = sym (map-id xs) ∙ e ∙ map-id ys

-- a list that is read
pub reads_items : {X : Type 0} (read : ℕ → List ℕ → Result (List X × List ℕ) DerError) (old new : Place) (r : Result (List X) DerError) → Reads each read old r new → Reads (λ x. x) read old r new
reads_items read old new (Ok xs) h = (h.0 ∙ ap (λ ys. Ok (ys, new.left)) (map-id xs), h.1)
reads_items read old new (Err e) h = h

-- a list that is written
pub writes_items : {X : Type 0} (Encodes : List ℕ → List X → Type 0) (Refused : List X → Type 0) (xs : List X) (r : Result (Unit {0}) DerError) (old new : List ℕ) → Writes (λ s. Encodes s (each xs)) (Refused (each xs)) r old new → Writes (λ s. Encodes s xs) (Refused xs) r old new
writes_items Encodes Refused xs r old new h = subst (λ ys. Writes (λ s. Encodes s ys) (Refused ys) r old new) (map-id xs) h

-- a list that may be left out
each_of : {X : Type 0} (o : Option (List X)) → option_map each o ≡ o
each_of None = refl
each_of (Some xs) = ap (λ ys. Some ys) (map-id xs)

pub reads_optional : {X : Type 0} (read : ℕ → List ℕ → Result (Option (List X) × List ℕ) DerError) (old new : Place) (r : Result (Option (List X)) DerError) → Reads (option_map each) read old r new → Reads (λ x. x) read old r new
reads_optional read old new (Ok o) h = (h.0 ∙ ap (λ p. Ok (p, new.left)) (each_of o), h.1)
reads_optional read old new (Err e) h = h

pub writes_optional : {X : Type 0} (Encodes : List ℕ → List X → Type 0) (Refused : List X → Type 0) (o : Option (List X)) (r : Result (Unit {0}) DerError) (old new : List ℕ) → Writes (λ s. SpellsOptional Encodes s (option_map each o)) (OptionalRefused Refused (option_map each o)) r old new → Writes (λ s. SpellsOptional Encodes s o) (OptionalRefused Refused o) r old new
writes_optional Encodes Refused o r old new h = subst (λ p. Writes (λ s. SpellsOptional Encodes s p) (OptionalRefused Refused p) r old new) (each_of o) h
