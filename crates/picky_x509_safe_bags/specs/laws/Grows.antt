-- Bags at some number of levels are the same at each greater one.
use Rattle.std.proofs.Common.{◌≡◌, ℕ, zero, suc, ◌+◌, ◌≤◌, max, List, [], ◌∷◌, refl, ap, ◌∙◌, arith, inl, inr}
use Rattle.picky_asn1_tag.specs.declared.tag.Tag.{Tag}
use Rattle.picky_der.specs.declared.fault.DerError.{DerError}
use Rattle.picky_der.specs.Form.{Form}
use Rattle.picky_fields.specs.Choice.{told_by}
use Rattle.picky_fields.specs.Fields.{Fields, identifier, one, ◌and◌, seen, enclosed, sequence, explicit, optional}
use Rattle.picky_asn1_wrapper.specs.Lists.{SpellsAll, greatest, AllFormed, SomeRefused, list_form}
use Rattle.picky_x509_bags.specs.Attribute.{attributes}
use Rattle.picky_x509_safe_bags.specs.declared.safe_bag.SafeBag.{SafeBag}
use Rattle.picky_x509_safe_bags.specs.Kind.{HeldValue, kind_of, held, bag_list, held_cases}
use Rattle.picky_x509_safe_bags.specs.Bag.{kind_field, bag_of, bag_parts, bag_fields, no_bag, bag_within}

-- what one form says of a value another says too
pub record Grows {X : Type 0} (f g : Form X) : Type 0 where
  pub formed : (x : X) → f.in_form x → g.in_form x
  pub spells : (s : List ℕ) (x : X) → f.Spells s x → g.Spells s x
  pub height : (s : List ℕ) (x : X) (p : f.Spells s x) → g.height s x (spells s x p) ≡ f.height s x p
  pub encodes : (s : List ℕ) (x : X) → f.Encodes s x → g.Encodes s x
  pub refused : (x : X) → f.Refused x → g.Refused x

record GrowsFields {X : Type 0} (f g : Fields X) : Type 0 where
  pub formed : (x : X) → f.in_form x → g.in_form x
  pub spells : (s : List ℕ) (x : X) → f.Spells s x → g.Spells s x
  pub height : (s : List ℕ) (x : X) (p : f.Spells s x) → g.height s x (spells s x p) ≡ f.height s x p
  pub encodes : (s : List ℕ) (x : X) → f.Encodes s x → g.Encodes s x
  pub refused : (x : X) → f.Refused x → g.Refused x

-- ---- lists

pub formed_all : {X : Type 0} {P Q : X → Type 0} → ((x : X) → P x → Q x) → (xs : List X) → AllFormed P xs → AllFormed Q xs
formed_all k [] h = tt
formed_all k (x ∷ xs) h = (k x h.0, formed_all k xs h.1)

abbrev pub spells_all : {X : Type 0} {P Q : List ℕ → X → Type 0} → ((s : List ℕ) (x : X) → P s x → Q s x) → (s : List ℕ) (xs : List X) → SpellsAll P s xs → SpellsAll Q s xs
spells_all k s [] p = p
spells_all k s (x ∷ xs) p = (p.0, p.1, p.2, k p.0 x p.3, spells_all k p.1 xs p.4)

refused_some : {X : Type 0} {P Q : X → Type 0} → ((x : X) → P x → Q x) → (xs : List X) → SomeRefused P xs → SomeRefused Q xs
refused_some k [] r = r
refused_some k (x ∷ xs) (inl r) = inl (k x r)
refused_some k (x ∷ xs) (inr r) = inr (refused_some k xs r)

module _ {X : Type 0} {f g : Form X} (k : Grows f g) where
  greatest_same : (s : List ℕ) (xs : List X) (p : SpellsAll f.Spells s xs) → greatest g.height s xs (spells_all k.spells s xs p) ≡ greatest f.height s xs p
  greatest_same s [] p = refl
  greatest_same s (x ∷ xs) p = ap (λ (h : ℕ). max h (greatest g.height p.1 xs (spells_all k.spells p.1 xs p.4))) (k.height p.0 x p.3) ∙ ap (λ (h : ℕ). max (f.height p.0 x p.3) h) (greatest_same p.1 xs p.4)

  list_grows : (tag : Tag) → Grows (list_form tag f) (list_form tag g)
  list_grows tag = record {
    formed = λ xs h. formed_all k.formed xs h;
    spells = λ s xs p. record { contents = p.contents; value = p.value; items = spells_all k.spells p.contents xs p.items };
    height = λ s xs p. ap (λ (h : ℕ). 1 + h) (greatest_same p.contents xs p.items);
    encodes = λ s xs p. record { contents = p.contents; value = p.value; items = spells_all k.encodes p.contents xs p.items };
    refused = λ xs r. refused_some k.refused xs r;
  }

-- ---- values around a run

module _ {X : Type 0} {f g : Fields X} (k : GrowsFields f g) where
  enclosed_grows : (tag : Tag) → Grows (enclosed tag f) (enclosed tag g)
  enclosed_grows tag = record {
    formed = k.formed;
    spells = λ s x p. record { contents = p.contents; fields = k.spells p.contents x p.fields; value = p.value };
    height = λ s x p. ap (λ (h : ℕ). 1 + h) (k.height p.contents x p.fields);
    encodes = λ s x p. record { contents = p.contents; fields = k.encodes p.contents x p.fields; value = p.value };
    refused = k.refused;
  }

  seen_grows : {Y : Type 0} (to : X → Y) (from : Y → X) → GrowsFields (seen to from f) (seen to from g)
  seen_grows to from = record {
    formed = λ y h. k.formed (from y) h;
    spells = λ s y p. record { value = p.value; formed = k.formed p.value p.formed; spelled = k.spells s p.value p.spelled; means = p.means };
    height = λ s y p. k.height s p.value p.spelled;
    encodes = λ s y p. k.encodes s (from y) p;
    refused = λ y r. k.refused (from y) r;
  }

  and_grows : {Y : Type 0} (h : Fields Y) → GrowsFields (f and h) (g and h)
  and_grows h = record {
    formed = λ x i. (k.formed x.0 i.0, i.1);
    spells = λ s x p. record { front = p.front; is_first = k.spells p.front x.0 p.is_first; back = p.back; is_second = p.is_second; parts = p.parts };
    height = λ s x p. ap (λ (n : ℕ). max n (h.height p.back x.1 p.is_second)) (k.height p.front x.0 p.is_first);
    encodes = λ s x p. record { front = p.front; is_first = k.encodes p.front x.0 p.is_first; back = p.back; is_second = p.is_second; parts = p.parts };
    refused = λ x r. elim r [ inl i ↦ inl (k.refused x.0 i) | inr i ↦ inr i ];
  }

one_grows : {X : Type 0} {f g : Form X} → Grows f g → GrowsFields (one f) (one g)
one_grows k = record { formed = k.formed; spells = k.spells; height = k.height; encodes = k.encodes; refused = k.refused }

explicit_grows : {X : Type 0} {f g : Form X} (n : ℕ) → Grows f g → Grows (explicit n f) (explicit n g)
unfolding explicit
explicit_grows n k = enclosed_grows (one_grows k) (record { 0 = 160 + n })

-- ---- what a bag holds

module _ {f g : Form SafeBag} (k : Grows f g) where
  held_bags : Grows (explicit 0 (bag_list f)) (explicit 0 (bag_list g))
  held_bags = explicit_grows 0 (list_grows k (record { 0 = 48 }))

  held_formed : (y : HeldValue) → (held_cases f).in_form y → (held_cases g).in_form y
  unfolding held_cases
  held_formed (inl xs) h = held_bags.formed xs h
  held_formed (inr o) h = h

  unfoldable held_spells : (s : List ℕ) (y : HeldValue) → (held_cases f).Spells s y → (held_cases g).Spells s y
  unfolding held_cases
  held_spells s (inl xs) p = held_bags.spells s xs p
  held_spells s (inr o) p = p

  held_height : (s : List ℕ) (y : HeldValue) (p : (held_cases f).Spells s y) → (held_cases g).height s y (held_spells s y p) ≡ (held_cases f).height s y p
  unfolding held_cases held_spells
  held_height s (inl xs) p = held_bags.height s xs p
  held_height s (inr o) p = refl

  held_encodes : (s : List ℕ) (y : HeldValue) → (held_cases f).Encodes s y → (held_cases g).Encodes s y
  unfolding held_cases
  held_encodes s (inl xs) p = held_bags.encodes s xs p
  held_encodes s (inr o) p = p

  held_refused : (y : HeldValue) → (held_cases f).Refused y → (held_cases g).Refused y
  unfolding held_cases
  held_refused (inl xs) r = held_bags.refused xs r
  held_refused (inr o) r = r

  told_grows : GrowsFields (told_by identifier (held_cases f)) (told_by identifier (held_cases g))
  unfolding held_cases held_spells
  told_grows = record {
    formed = λ y h. (h.0, held_formed y h.1);
    spells = λ s y p. record { front = p.front; is_first = p.is_first; back = p.back; is_second = held_spells p.back y p.is_second; parts = p.parts };
    height = λ s y p. ap (λ (n : ℕ). max 0 n) (held_height p.back y p.is_second);
    encodes = λ s y p. record { front = p.front; is_first = p.is_first; back = p.back; is_second = held_encodes p.back y p.is_second; parts = p.parts };
    refused = λ y r. elim r [ inl i ↦ inl i | inr i ↦ inr (held_refused y i) ];
  }

  pub layer_grows : Grows (sequence (bag_fields f)) (sequence (bag_fields g))
  unfolding bag_fields kind_field
  layer_grows = enclosed_grows (seen_grows (and_grows (seen_grows told_grows kind_of held) (optional attributes)) bag_of bag_parts) (record { 0 = 48 })

-- ---- so many levels

none_grows : (deep : DerError) (g : Form SafeBag) → Grows (no_bag deep) g
none_grows deep g = record {
  formed = λ x h. absurd h;
  spells = λ s x p. absurd p;
  height = λ s x p. absurd p;
  encodes = λ s x p. absurd p;
  refused = λ x r. absurd r;
}

pub within_grows : (deep other : DerError) (n m : ℕ) → n ≤ m → Grows (bag_within deep n) (bag_within other m)
unfolding bag_within
within_grows deep other zero m h = none_grows deep (bag_within other m)
within_grows deep other (suc n) zero h = absurd (omega arith)
within_grows deep other (suc n) (suc m) h = layer_grows (within_grows deep other n m (omega arith))
