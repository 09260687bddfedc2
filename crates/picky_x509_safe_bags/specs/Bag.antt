-- Bags, which may hold bags: SafeBag ::= SEQUENCE { bagId OBJECT IDENTIFIER, bagValue [0] EXPLICIT ANY DEFINED BY bagId, bagAttributes SET OF PKCS12Attribute OPTIONAL } (RFC 7292 section 4.2).
use Rattle.std.specs.Prelude.{ℕ, zero, suc, ◌==◌, List, ◌++◌, Option, Result, Err, ◌⊎◌}
use Rattle.std.specs.List.{flat_map}
use Rattle.std.proofs.Common.{inl, inr}
use Rattle.picky_der.specs.declared.fault.DerError.{DerError}
use Rattle.picky_der.specs.declared.fault.DerError.TheVariants.{TooDeep}
use Rattle.picky_der.specs.Form.{Form}
use Rattle.picky_der.specs.Length.{value_of}
use Rattle.picky_der.specs.Reading.{◌>>=◌, tag_at}
use Rattle.picky_fields.specs.Choice.{told_by}
use Rattle.picky_fields.specs.Fields.{Fields, identifier, optional, optional_encoding, ◌and◌, seen, sequence}
use Rattle.picky_x509_algorithms.specs.declared.known_identifier.KnownIdentifier.TheVariants as known
use Rattle.picky_x509_algorithms.specs.Identifiers.{arcs}
use Rattle.picky_x509_bags.specs.declared.attribute.Pkcs12Attribute.{Pkcs12Attribute}
use Rattle.picky_x509_bags.specs.Attribute.{attributes}
use Rattle.picky_x509_safe_bags.specs.declared.safe_bag.SafeBag.{SafeBag}
use Rattle.picky_x509_safe_bags.specs.declared.safe_bag.SafeBagKind.{SafeBagKind, fold-SafeBagKind}
use Rattle.picky_x509_safe_bags.specs.declared.safe_bag.SafeBagKind.TheOpen.{SafeBagKind-F, SafeBag-F}
use Rattle.picky_x509_safe_bags.specs.Kind.{OtherValue, other_cases, kind_of, held_in, held, held_cases}

-- ---- one level above another

unfoldable pub kind_field : Form SafeBag → Fields SafeBagKind
kind_field inner = seen kind_of held (told_by identifier (held_cases inner))

abbrev pub bag_of : SafeBagKind × Option (List Pkcs12Attribute) → SafeBag
bag_of x = record { kind = x.0; attributes = x.1 }

abbrev pub bag_parts : SafeBag → SafeBagKind × Option (List Pkcs12Attribute)
bag_parts b = (b.kind, b.attributes)

-- a bag whose inner bags have this form
unfoldable pub bag_fields : Form SafeBag → Fields SafeBag
bag_fields inner = seen bag_of bag_parts (kind_field inner and optional attributes)

-- ---- encodings

-- the encoding of what a bag holds, with its identifier, where inner bags are their encodings
abbrev pub held_encoding : List (List ℕ) ⊎ OtherValue → List ℕ
held_encoding (inl all) = identifier.encoding (arcs known.SafeContentsBag) ++ value_of 160 (value_of 48 (flat_map (λ s. s) all))
held_encoding (inr other) = identifier.encoding (other_cases.key other) ++ other_cases.encoding other

abbrev pub kind_step : SafeBagKind-F (List ℕ) (List ℕ) → List ℕ
kind_step kind = held_encoding (held_in kind)

abbrev pub bag_step : SafeBag-F (List ℕ) (List ℕ) → List ℕ
bag_step b = value_of 48 (b.kind ++ optional_encoding attributes.encoding b.attributes)

unfoldable pub kind_encoding : SafeBagKind → List ℕ
kind_encoding = fold-SafeBagKind (List ℕ) (List ℕ) kind_step bag_step

-- the encoding of a bag, however deep
unfoldable pub bag_encoding : SafeBag → List ℕ
bag_encoding b = value_of 48 (kind_encoding b.kind ++ optional_encoding attributes.encoding b.attributes)

-- ---- so many levels

-- a bag stands wherever a further byte does at a bag's place; `deep` stands for one that stands deeper than is allowed
unfoldable pub no_bag_at : DerError → List ℕ → Result (SafeBag × List ℕ) DerError
no_bag_at deep bytes = tag_at bytes >>= λ _. Err deep

-- no levels: no bag is in form
abbrev pub no_bag : DerError → Form SafeBag
no_bag deep = record {
  in_form = λ _. ⊥;
  Spells = λ _ _. ⊥;
  height = λ _ _ _. 0;
  Encodes = λ _ _. ⊥;
  encoding = bag_encoding;
  Refused = λ _. ⊥;
  begins = λ b. b == 48;
  reading = λ _ bytes. no_bag_at deep bytes;
}

-- Bags nested at most so many levels: a bag that holds none has one. Where a bag stands a level deeper, and no bad place comes
-- before it, reading gives the fault `deep`.
unfoldable pub bag_within : DerError → ℕ → Form SafeBag
bag_within deep zero = no_bag deep
bag_within deep (suc levels) = sequence (bag_fields (bag_within deep levels))

-- ---- all levels

-- The bags of some number of levels. Each level nests three readers, so that those of 86 nest 258, and reading never meets a bag
-- a level deeper: it is `TooDeep` in front of it.
unfoldable pub safe_bag : Form SafeBag
safe_bag = record {
  in_form = λ b. (levels : ℕ) × (bag_within TooDeep levels).in_form b;
  Spells = λ s b. (levels : ℕ) × (bag_within TooDeep levels).Spells s b;
  height = λ s b p. (bag_within TooDeep p.0).height s b p.1;
  Encodes = λ s b. (levels : ℕ) × (bag_within TooDeep levels).Encodes s b;
  encoding = bag_encoding;
  Refused = λ b. (levels : ℕ) × (bag_within TooDeep levels).Refused b;
  begins = λ b. b == 48;
  reading = (bag_within TooDeep 86).reading;
}
