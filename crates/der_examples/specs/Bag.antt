-- Bags that may hold bags: SEQUENCE { kind OBJECT IDENTIFIER, value [0] EXPLICIT SEQUENCE OF Bag or any value, note ANY OPTIONAL } (own).
use Rattle.std.proofs.Common.{◌≡◌, ◌⊎◌, ap}
use Rattle.picky_fields.specs.Forms.{ℕ, List, Option, inl, inr, arith, refl, raw_form, one, explicit, otherwise, optional_last}
use Rattle.picky_fields.specs.laws.Forms.{one_lawful, explicit_lawful, otherwise_lawful, optional_last_lawful, raw_lawful}
use Rattle.picky_levels.specs.Nests.{Nest, made_of, known_nest}
use Rattle.picky_levels.specs.laws.Nests.{LawfulNest, known_nest_lawful}
use Rattle.der_examples.specs.declared.TheConstants.{BAGS}
use Rattle.der_examples.specs.declared.bag.Bag.{Bag}
use Rattle.der_examples.specs.declared.bag.BagKind.{BagKind, Bags, Unknown, out-BagKind, roll-BagKind, roll-out-BagKind}
use Rattle.der_examples.specs.declared.bag.BagKind.TheVariants.{outs-Bags, outs-Unknown, rolls-Bags, rolls-Unknown}
use Rattle.der_examples.specs.declared.bag.BagKind.TheOpen.{BagKind-F}
use Rattle.der_examples.specs.Identifiers.{bags, bags_known}

abbrev pub held_in : BagKind-F BagKind Bag → List Bag ⊎ (List ℕ × List ℕ)
held_in (BagKind-F.Bags b) = inl b
held_in (BagKind-F.Unknown t v) = inr (t, v)

-- what a bag holds: bags behind their identifier, or another one and any value; and any value, or none, at the end
abbrev pub bag : Nest Bag
bag = known_nest bags BAGS (otherwise (one (explicit 0 raw_form))) (optional_last raw_form) (λ b note. record { kind = Bags b; note = note }) (λ p note. record { kind = Unknown p.0 p.1; note = note }) (λ b. (held_in (out-BagKind b.kind), b.note))

made : (l : BagKind-F BagKind Bag) (behind : Option (List ℕ)) → made_of bag (held_in l) behind ≡ record { kind = roll-BagKind l; note = behind }
made (BagKind-F.Bags b) behind = rw (rolls-Bags b) refl
made (BagKind-F.Unknown t v) behind = rw (rolls-Unknown t v) refl

pub bag_lawful : LawfulNest bag
bag_lawful = known_nest_lawful bags_known (otherwise_lawful (one_lawful (explicit_lawful 0 (omega arith) raw_lawful))) (optional_last_lawful raw_lawful) (λ _ _. refl) (λ b. rw (roll-out-BagKind b.kind) at (made (out-BagKind b.kind) b.note))
    (λ b note. ap (λ (l : BagKind-F BagKind Bag). (held_in l, note)) (outs-Bags b)) (λ p note. ap (λ (l : BagKind-F BagKind Bag). (held_in l, note)) (outs-Unknown p.0 p.1))
