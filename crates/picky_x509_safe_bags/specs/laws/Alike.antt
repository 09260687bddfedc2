-- Readings of bags that allow more levels than can be nested are alike.
use Rattle.std.proofs.Common.{◌≡◌, ℕ, zero, suc, ◌+◌, ◌*◌, ◌<◌, ◌≤◌, true, false, cond, ltb, List, [], ◌∷◌, length, Result, Ok, Err, refl, ap, ◌∙◌, arith, inl, inr}
use Rattle.std.proofs.lemmas.Bool.{ltb-true}
use Rattle.picky_asn1_tag.specs.declared.tag.Tag.{Tag}
use Rattle.picky_der.specs.declared.fault.DerError.{DerError}
use Rattle.picky_der.specs.declared.fault.DerError.TheVariants.{TooDeep}
use Rattle.picky_der.specs.Reading.{◌>>=◌, value_at, deeper, nested_at, end_at}
use Rattle.picky_der.specs.Form.{Form}
use Rattle.picky_fields.specs.Choice.{told_by}
use Rattle.picky_fields.specs.Fields.{Fields, identifier, one, ◌and◌, seen, run_at, enclosed_at, sequence, explicit, optional}
use Rattle.picky_asn1_wrapper.specs.Lists.{items_at, list_at}
use Rattle.picky_x509_algorithms.specs.declared.known_identifier.KnownIdentifier.TheVariants as known
use Rattle.picky_x509_algorithms.specs.Identifiers.{is_known}
use Rattle.picky_x509_bags.specs.Attribute.{attributes}
use Rattle.picky_x509_safe_bags.specs.declared.safe_bag.SafeBag.{SafeBag}
use Rattle.picky_x509_safe_bags.specs.Kind.{kind_of, held, bag_list, other_cases, held_cases}
use Rattle.picky_x509_safe_bags.specs.Bag.{kind_field, bag_of, bag_parts, bag_fields, bag_within}

-- ---- steps

bind_alike : {A B : Type 0} (r : Result A DerError) (next other : A → Result B DerError) → ((x : A) → next x ≡ other x) → (r >>= next) ≡ (r >>= other)
bind_alike (Ok x) next other k = k x
bind_alike (Err e) next other k = refl

then_alike : {A B : Type 0} (r s : Result A DerError) (next : A → Result B DerError) → r ≡ s → (r >>= next) ≡ (s >>= next)
then_alike r s next e = ap (λ z. z >>= next) e

deeper_alike : {A B : Type 0} (depth : ℕ) (x : A) (next other : A → Result B DerError) → (depth < 256 → next x ≡ other x) → (deeper depth x >>= next) ≡ (deeper depth x >>= other)
unfolding deeper
deeper_alike depth x next other k =
    elim (ltb depth 256) as (λ b. ltb depth 256 ≡ b → (cond b (Ok x) (Err TooDeep) >>= next) ≡ (cond b (Ok x) (Err TooDeep) >>= other)) [
      | true ↦ λ e. k (ltb-true depth 256 e)
      | false ↦ λ _. refl
    ] refl

-- a reader nested one deeper, which there is below the depth 256 alone
nested_alike : {B : Type 0} (tag : Tag) (depth : ℕ) (bytes : List ℕ) (next other : List ℕ × List ℕ → Result B DerError) → (depth < 256 → (v : List ℕ × List ℕ) → next v ≡ other v) → (nested_at tag depth bytes >>= next) ≡ (nested_at tag depth bytes >>= other)
unfolding nested_at
nested_alike tag depth bytes next other k =
    elim (value_at tag bytes) as (λ r. ((r >>= λ v. deeper depth v) >>= next) ≡ ((r >>= λ v. deeper depth v) >>= other)) [
      | Ok v ↦ deeper_alike depth v next other (λ lt. k lt v)
      | Err e ↦ refl
    ]

-- two readings at a depth give the same
abbrev pub Alike : {X : Type 0} → (List ℕ → Result X DerError) → (List ℕ → Result X DerError) → Type 0
Alike read other = (bytes : List ℕ) → read bytes ≡ other bytes

items_alike : {X : Type 0} (read other : List ℕ → Result (X × List ℕ) DerError) → Alike read other → (most : ℕ) → Alike (items_at read most) (items_at other most)
items_alike read other k most [] = refl
items_alike read other k zero (b ∷ bs) = refl
items_alike read other k (suc most) (b ∷ bs) =
    then_alike (read (b ∷ bs)) (other (b ∷ bs)) (λ x. items_at read most x.1 >>= λ xs. Ok (x.0 ∷ xs)) (k (b ∷ bs))
    ∙ bind_alike (other (b ∷ bs)) (λ x. items_at read most x.1 >>= λ xs. Ok (x.0 ∷ xs)) (λ x. items_at other most x.1 >>= λ xs. Ok (x.0 ∷ xs))
    (λ x. then_alike (items_at read most x.1) (items_at other most x.1) (λ xs. Ok (x.0 ∷ xs)) (items_alike read other k most x.1))

list_alike : {X : Type 0} (tag : Tag) (f g : Form X) (depth : ℕ) → (depth < 256 → Alike (f.reading (depth + 1)) (g.reading (depth + 1))) → Alike (list_at tag f.reading depth) (list_at tag g.reading depth)
unfolding list_at
list_alike tag f g depth k bytes =
    nested_alike tag depth bytes (λ v. items_at (f.reading (depth + 1)) (length v.0) v.0 >>= λ xs. Ok (xs, v.1)) (λ v. items_at (g.reading (depth + 1)) (length v.0) v.0 >>= λ xs. Ok (xs, v.1))
    (λ lt v. then_alike (items_at (f.reading (depth + 1)) (length v.0) v.0) (items_at (g.reading (depth + 1)) (length v.0) v.0) (λ xs. Ok (xs, v.1)) (items_alike (f.reading (depth + 1)) (g.reading (depth + 1)) (k lt) (length v.0) v.0))

enclosed_alike : {X : Type 0} (tag : Tag) (f g : Fields X) (depth : ℕ) → (depth < 256 → Alike (f.reading (depth + 1)) (g.reading (depth + 1))) → Alike (enclosed_at tag f.reading depth) (enclosed_at tag g.reading depth)
unfolding enclosed_at run_at
enclosed_alike tag f g depth k bytes =
    nested_alike tag depth bytes (λ v. run_at f.reading (depth + 1) v.0 >>= λ x. Ok (x, v.1)) (λ v. run_at g.reading (depth + 1) v.0 >>= λ x. Ok (x, v.1))
    (λ lt v. then_alike (run_at f.reading (depth + 1) v.0) (run_at g.reading (depth + 1) v.0) (λ x. Ok (x, v.1))
    (then_alike (f.reading (depth + 1) v.0) (g.reading (depth + 1) v.0) (λ x. end_at x.1 >>= λ _. Ok x.0) (k lt v.0)))

and_alike : {X Y : Type 0} (f g : Fields X) (h : Fields Y) (depth : ℕ) → Alike (f.reading depth) (g.reading depth) → Alike ((f and h).reading depth) ((g and h).reading depth)
and_alike {X = X} {Y = Y} f g h depth k bytes =
    then_alike {B = (X × Y) × List ℕ} (f.reading depth bytes) (g.reading depth bytes) (λ x. h.reading depth x.1 >>= λ y. Ok ((x.0, y.0), y.1)) (k bytes)

seen_alike : {X Y : Type 0} (to : X → Y) (from : Y → X) (f g : Fields X) (depth : ℕ) → Alike (f.reading depth) (g.reading depth) → Alike ((seen to from f).reading depth) ((seen to from g).reading depth)
seen_alike to from f g depth k bytes = then_alike (f.reading depth bytes) (g.reading depth bytes) (λ x. Ok (to x.0, x.1)) (k bytes)

-- ---- one level above another

module _ (f g : Form SafeBag) (depth : ℕ) (k : depth + 1 < 256 → Alike (f.reading (depth + 1 + 1)) (g.reading (depth + 1 + 1))) where
  -- bags in an explicit tag nest two readers
  bags_alike : Alike ((explicit 0 (bag_list f)).reading depth) ((explicit 0 (bag_list g)).reading depth)
  unfolding explicit
  bags_alike = enclosed_alike (record { 0 = 160 }) (one (bag_list f)) (one (bag_list g)) depth (λ _. list_alike (record { 0 = 48 }) f g (depth + 1) k)

  held_alike : (id : List ℕ) → Alike ((held_cases f).reading id depth) ((held_cases g).reading id depth)
  unfolding held_cases
  held_alike id bytes =
      ap (λ r. cond (is_known known.SafeContentsBag id) (r >>= λ x. Ok (inl x.0, x.1)) (other_cases.reading id depth bytes >>= λ z. Ok (inr z.0, z.1))) (bags_alike bytes)

  told_alike : Alike ((told_by identifier (held_cases f)).reading depth) ((told_by identifier (held_cases g)).reading depth)
  told_alike bytes = bind_alike (identifier.reading depth bytes) (λ id. (held_cases f).reading id.0 depth id.1) (λ id. (held_cases g).reading id.0 depth id.1) (λ id. held_alike id.0 id.1)

  kind_alike : Alike ((kind_field f).reading depth) ((kind_field g).reading depth)
  unfolding kind_field
  kind_alike = seen_alike kind_of held (told_by identifier (held_cases f)) (told_by identifier (held_cases g)) depth told_alike

  fields_alike : Alike ((bag_fields f).reading depth) ((bag_fields g).reading depth)
  unfolding bag_fields
  fields_alike =
      seen_alike bag_of bag_parts (kind_field f and optional attributes) (kind_field g and optional attributes) depth
      (and_alike (kind_field f) (kind_field g) (optional attributes) depth kind_alike)

-- the bags in a bag are read three readers deeper
layer_alike : (f g : Form SafeBag) (depth : ℕ) → (depth + 1 + 1 < 256 → Alike (f.reading (depth + 1 + 1 + 1)) (g.reading (depth + 1 + 1 + 1))) → Alike ((sequence (bag_fields f)).reading depth) ((sequence (bag_fields g)).reading depth)
layer_alike f g depth k = enclosed_alike (record { 0 = 48 }) (bag_fields f) (bag_fields g) depth (λ _. fields_alike f g (depth + 1) k)

-- ---- so many levels that they nest more than 256 readers

within_alike : (deep other : DerError) (n m depth : ℕ) → depth ≤ 256 → 256 < depth + 3 * n → 256 < depth + 3 * m → Alike ((bag_within deep n).reading depth) ((bag_within other m).reading depth)
unfolding bag_within
within_alike deep other zero m depth below a b = absurd (omega arith)
within_alike deep other (suc n) zero depth below a b = absurd (omega arith)
within_alike deep other (suc n) (suc m) depth below a b =
    layer_alike (bag_within deep n) (bag_within other m) depth (λ lt. within_alike deep other n m (depth + 1 + 1 + 1) (omega arith) (omega arith) (omega arith))

-- from 86 levels on, whatever stands for a bag that stands deeper
pub enough_alike : (deep other : DerError) (n m depth : ℕ) → 86 ≤ n → 86 ≤ m → Alike ((bag_within deep n).reading depth) ((bag_within other m).reading depth)
unfolding bag_within
enough_alike deep other zero m depth a b = absurd (omega arith)
enough_alike deep other (suc n) zero depth a b = absurd (omega arith)
enough_alike deep other (suc n) (suc m) depth a b =
    layer_alike (bag_within deep n) (bag_within other m) depth (λ lt. within_alike deep other n m (depth + 1 + 1 + 1) (omega arith) (omega arith) (omega arith))
