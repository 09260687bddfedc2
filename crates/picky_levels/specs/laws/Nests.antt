-- The laws of records that hold items of their own type, at each number of levels, from those of their parts.
use Rattle.std.proofs.Common.{◌≡◌, ℕ, true, false, ◌⊎◌, List, arith, inl, inr}
use Rattle.picky_der.specs.Form.{Form}
use Rattle.picky_fields.specs.Fields.{Fields, Tells, identifier}
use Rattle.picky_fields.specs.Choice.{Cases}
use Rattle.picky_fields.specs.laws.Fields.{Lawful, LawfulFields, one_lawful, and_lawful, one_to_one, seen_lawful, explicit_lawful}
use Rattle.picky_fields.specs.laws.Choice.{LawfulCases, case_lawful, told_lawful}
use Rattle.picky_fields.specs.laws.Identifiers.{Known, known_tells}
use Rattle.picky_fields.specs.laws.Levels.{levels_lawful}
use Rattle.picky_fields.specs.laws.Plain.{identifier_lawful}
use Rattle.picky_asn1_wrapper.specs.laws.Lists.{list_readable, list_writable}
use Rattle.picky_levels.specs.Nests.{Nest, made_of, items_form, held, nest_fields, nest_form, known_nest}

-- The laws of a record's parts. No field behind begins by a tag that what stands before it might still take, and a record is its parts.
pub record LawfulNest {X : Type 0} (d : Nest X) : Type 0 where
  pub tells : Tells identifier.in_form d.items_id d.is_items
  pub others : LawfulCases identifier d.others
  pub back : LawfulFields d.back
  pub apart : (b : ℕ) → d.back.begins b ≡ true → d.others.takes_more b ≡ false
  pub made : (x : X) → made_of d (d.parts x).0 (d.parts x).1 ≡ x
  pub of_items : (xs : List X) (y : d.Back) → d.parts (d.of_items xs y) ≡ (inl xs, y)
  pub of_other : (z : d.Other) (y : d.Back) → d.parts (d.of_other z y) ≡ (inr z, y)

module _ {X : Type 0} (d : Nest X) (law : LawfulNest d) where
  items_lawful : (inner : Form X) → Lawful inner → Lawful (items_form inner)
  items_lawful inner l =
      explicit_lawful 0 (omega arith) (record { readable = list_readable inner l.readable (record { 0 = 48 }); writable = list_writable inner l.writable (record { 0 = 48 }) (λ h. absurd (omega arith)) })

  parted : (h : List X ⊎ d.Other) (y : d.Back) → d.parts (made_of d h y) ≡ (h, y)
  parted (inl xs) y = law.of_items xs y
  parted (inr z) y = law.of_other z y

  level_lawful : (inner : Form X) → Lawful inner → LawfulFields (nest_fields d inner)
  unfolding nest_fields held
  level_lawful inner l =
      seen_lawful (one_to_one law.made (λ p. parted p.0 p.1)) (and_lawful law.apart (told_lawful identifier_lawful (case_lawful law.tells (one_lawful (items_lawful inner l)) law.others)) law.back)

  -- all laws, at each number of levels, by induction
  pub nest_lawful : (n : ℕ) → Lawful (nest_form d n)
  nest_lawful n = levels_lawful (nest_fields d) level_lawful n

pub known_nest_lawful : {X Other Back : Type 0} {arcs octets : List ℕ} {others : Cases (List ℕ) Other} {back : Fields Back} {of_items : List X → Back → X} {of_other : Other → Back → X} {parts : X → (List X ⊎ Other) × Back} → Known arcs octets → LawfulCases identifier others → LawfulFields back → ((b : ℕ) → back.begins b ≡ true → others.takes_more b ≡ false) → ((x : X) → made_of (known_nest arcs octets others back of_items of_other parts) (parts x).0 (parts x).1 ≡ x) → ((xs : List X) (y : Back) → parts (of_items xs y) ≡ (inl xs, y)) → ((z : Other) (y : Back) → parts (of_other z y) ≡ (inr z, y)) → LawfulNest (known_nest arcs octets others back of_items of_other parts)
known_nest_lawful {arcs = arcs} {octets = octets} known others back apart made items other =
    record { tells = known_tells arcs octets known; others = others; back = back; apart = apart; made = made; of_items = items; of_other = other }
