-- Steps of writing what a record holds: what stands in front of items, and then items.
use Rattle.std.proofs.Common.{◌≡◌, ℕ, ◌⊎◌, List, Option, Some, None, Result, Ok, Err, subst, inl, inr}
use Rattle.picky_der.specs.declared.fault.DerError.{DerError}
use Rattle.picky_der.specs.Form.{Form, Appends, Writes}
use Rattle.picky_fields.specs.Records.{WritesFields}
use Rattle.picky_levels.specs.Nests.{Nest, items_form, held, items_in, FrontEncodes, FrontRefused}

module _ {X : Type 0} (d : Nest X) (inner : Form X) where
  some_is : (xs ys : List X) → ◌≡◌ {A = Option (List X)} (Some xs) (Some ys) → xs ≡ ys
  some_is xs ys e = cc

  held_encodes : (h : List X ⊎ d.Other) (xs : List X) (old new : List ℕ) → Some xs ≡ items_in h → FrontEncodes d h old → Appends (λ s. (items_form inner).Encodes s xs) old new → (held d inner).Encodes new h
  unfolding held
  held_encodes (inl ys) xs old new e f a =
      record { front = old; is_first = f; back = a.encoding; is_second = subst (λ (zs : List X). (items_form inner).Encodes a.encoding zs) (some_is xs ys e) a.encoded; parts = a.new_is }
  held_encodes (inr z) xs old new e f a = absurd cc

  held_refused : (h : List X ⊎ d.Other) (xs : List X) → Some xs ≡ items_in h → (items_form inner).Refused xs → (held d inner).Refused h
  unfolding held
  held_refused (inl ys) xs e r = inr (subst (λ (zs : List X). (items_form inner).Refused zs) (some_is xs ys e) r)
  held_refused (inr z) xs e r = absurd cc

  -- items were written behind what stands in front of them
  pub held_writes : (h : List X ⊎ d.Other) (xs : List X) (r : Result (Unit {0}) DerError) (old new : List ℕ) → Some xs ≡ items_in h → FrontEncodes d h old → Writes (λ s. (items_form inner).Encodes s xs) ((items_form inner).Refused xs) r old new → WritesFields (held d inner) h r new
  held_writes h xs (Ok u) old new e f w = held_encodes h xs old new e f w
  held_writes h xs (Err c) old new e f w = elim w.0 [ inl m ↦ inl m | inr b ↦ inr (b.0, held_refused h xs e b.1) ]

  -- nothing follows what stands in front
  pub held_other : (h : List X ⊎ d.Other) (new : List ℕ) → None ≡ items_in h → FrontEncodes d h new → (held d inner).Encodes new h
  unfolding held
  held_other (inl ys) new e f = absurd cc
  held_other (inr z) new e f = f

  pub front_refused : (h : List X ⊎ d.Other) → FrontRefused d h → (held d inner).Refused h
  unfolding held
  front_refused (inl ys) r = inl r
  front_refused (inr z) r = r
