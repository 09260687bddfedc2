-- The encoding of a bag is the same at each number of levels.
use Rattle.std.proofs.Common.{◌≡◌, ℕ, zero, suc, List, [], ◌∷◌, ◌++◌, map, refl, sym, ap, ◌∙◌}
use Rattle.std.specs.List.{flat_map}
use Rattle.picky_der.specs.declared.fault.DerError.{DerError}
use Rattle.picky_der.specs.Form.{Form}
use Rattle.picky_der.specs.Length.{value_of}
use Rattle.picky_fields.specs.Choice.{told_by}
use Rattle.picky_fields.specs.Fields.{identifier, optional_encoding, sequence, explicit}
use Rattle.picky_x509_algorithms.specs.declared.known_identifier.KnownIdentifier.TheVariants as known
use Rattle.picky_x509_algorithms.specs.Identifiers.{arcs}
use Rattle.picky_x509_bags.specs.Attribute.{attributes}
use Rattle.picky_x509_safe_bags.specs.declared.safe_bag.SafeBag.{SafeBag}
use Rattle.picky_x509_safe_bags.specs.declared.safe_bag.SafeBagKind.{SafeBagKind, out-SafeBagKind}
use Rattle.picky_x509_safe_bags.specs.declared.safe_bag.SafeBagKind.TheOpen.{SafeBagKind-F}
use Rattle.picky_x509_safe_bags.specs.declared.safe_bag.SafeBagKind.TheFolds.{fold-SafeBag, fold_out-SafeBagKind, fold_out-SafeBag, map-SafeBagKind}
use Rattle.picky_x509_safe_bags.specs.Kind.{held_in, held_cases}
use Rattle.picky_x509_safe_bags.specs.Bag.{kind_field, bag_fields, kind_step, bag_step, kind_encoding, bag_encoding, bag_within}

all_alike : {X : Type 0} (f g : X → List ℕ) → ((x : X) → f x ≡ g x) → (xs : List X) → flat_map f xs ≡ flat_map (λ s. s) (map g xs)
all_alike f g k [] = refl
all_alike f g k (x ∷ xs) = ap (λ (s : List ℕ). s ++ flat_map f xs) (k x) ∙ ap (λ (s : List ℕ). g x ++ s) (all_alike f g k xs)

abbrev inner_encoding : SafeBag → List ℕ
inner_encoding = fold-SafeBag (List ℕ) (List ℕ) kind_step bag_step

inner_is : (b : SafeBag) → bag_encoding b ≡ inner_encoding b
unfolding bag_encoding kind_encoding
inner_is b = sym (fold_out-SafeBag (List ℕ) (List ℕ) kind_step bag_step b)

module _ (f : Form SafeBag) (k : (b : SafeBag) → f.encoding b ≡ bag_encoding b) where
  layer_kind : (l : SafeBagKind-F SafeBagKind SafeBag) → (told_by identifier (held_cases f)).encoding (held_in l) ≡ kind_step (map-SafeBagKind SafeBagKind SafeBag (List ℕ) (List ℕ) kind_encoding inner_encoding l)
  unfolding held_cases explicit
  layer_kind (SafeBagKind-F.Key key) = refl
  layer_kind (SafeBagKind-F.EncryptedKey bag) = refl
  layer_kind (SafeBagKind-F.Certificate bag) = refl
  layer_kind (SafeBagKind-F.Crl crl) = refl
  layer_kind (SafeBagKind-F.Secret bag) = refl
  layer_kind (SafeBagKind-F.SafeContents xs) =
      ap (λ (s : List ℕ). identifier.encoding (arcs known.SafeContentsBag) ++ value_of 160 (value_of 48 s)) (all_alike f.encoding inner_encoding (λ b. k b ∙ inner_is b) xs)
  layer_kind (SafeBagKind-F.Unknown id value) = refl

  kind_is : (kind : SafeBagKind) → (kind_field f).encoding kind ≡ kind_encoding kind
  unfolding kind_field kind_encoding
  kind_is kind = layer_kind (out-SafeBagKind kind) ∙ sym (fold_out-SafeBagKind (List ℕ) (List ℕ) kind_step bag_step kind)

  pub layer_encoding : (b : SafeBag) → (sequence (bag_fields f)).encoding b ≡ bag_encoding b
  unfolding bag_fields bag_encoding
  layer_encoding b = ap (λ (s : List ℕ). value_of 48 (s ++ optional_encoding attributes.encoding b.attributes)) (kind_is b.kind)

pub within_encoding : (deep : DerError) (levels : ℕ) (b : SafeBag) → (bag_within deep levels).encoding b ≡ bag_encoding b
unfolding bag_within
within_encoding deep zero b = refl
within_encoding deep (suc levels) b = layer_encoding (bag_within deep levels) (within_encoding deep levels) b
