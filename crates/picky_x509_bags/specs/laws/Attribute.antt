-- The laws of attributes.
use Rattle.std.proofs.Common.{◌≡◌, ◌≢◌, ◌<◌, ◌%◌, ◌^◌, ℕ, true, false, cond, eqb, List, [], ◌∷◌, length, Option, Some, None, Ok, refl, sym, ap, ◌∙◌, arith, inl, inr}
use Rattle.std.proofs.lemmas.Bool.{eqb-true}
use Rattle.std.proofs.lemmas.List.{append-nil}
use Rattle.picky_asn1_tag.specs.declared.tag.Tag.{Tag}
use Rattle.picky_asn1_oid.specs.Arcs.{base128, continued}
use Rattle.picky_asn1_simple.specs.Sets.{is_bmp}
use Rattle.picky_asn1_simple.specs.laws.Sets.{bmp_decides}
use Rattle.picky_asn1_text.specs.Bmp.{IsBmp}
use Rattle.picky_asn1_wrapper.specs.Lists.{AllFormed, SpellsAll}
use Rattle.picky_asn1_wrapper.specs.laws.Lists.{list_readable, list_writable}
use Rattle.picky_der.specs.Form.{IsValue, IsOneValue}
use Rattle.picky_der.specs.Length.{value_of}
use Rattle.picky_der.specs.Raw.{raw_form}
use Rattle.picky_der.specs.Reading.{value_at}
use Rattle.picky_der.specs.laws.Headers.{IsValue-again, value_again}
use Rattle.picky_der.specs.laws.Raw.{raw_readable, raw_writable}
use Rattle.picky_der.specs.laws.Steps.{chosen}
use Rattle.picky_fields.specs.Fields.{identifier, one, ◌and◌}
use Rattle.picky_fields.specs.laws.Fields.{Lawful, one_lawful, and_lawful, sequence_lawful}
use Rattle.picky_fields.specs.laws.Plain.{identifier_lawful}
use Rattle.picky_fields.specs.laws.SeenAgain.{seen_again_lawful, sees_as_written}
use Rattle.picky_x509_algorithms.specs.declared.known_identifier.KnownIdentifier.TheVariants as known
use Rattle.picky_x509_algorithms.specs.Identifiers.{arcs, is_known}
use Rattle.picky_x509_algorithms.specs.laws.Identifiers.{tells}
use Rattle.picky_x509_bags.specs.declared.attribute.Pkcs12Attribute.{Pkcs12Attribute}
use Rattle.picky_x509_bags.specs.declared.attribute.Pkcs12Attribute.TheVariants.{FriendlyName, LocalKeyId, Unknown}
use Rattle.picky_x509_bags.specs.Attribute.{AttributeValue, contents_in, single, if_bmp, name_in, octets_in, or_unknown, attribute_of, attribute_parts, values, attribute_fields, attribute, attributes}

-- ---- the one value of a set

abbrev some : List ℕ → Option (List ℕ)
some x = Some x

some_is : (x y : List ℕ) → some x ≡ some y → x ≡ y
some_is x y e = cc

-- a value of another tag isn't read
other_tag : (tag : Tag) (t : ℕ) (c : List ℕ) → eqb t tag.0 ≡ false → contents_in (value_at tag (value_of t c)) ≡ None
unfolding value_at value_of
other_tag tag t c e = rw e refl

same_tag : (tag : Tag) (t : ℕ) (c d value : List ℕ) → t ≡ tag.0 → IsValue (record { 0 = t }) c value → contents_in (value_at tag value) ≡ Some d → value ≡ value_of tag.0 d
same_tag tag t c d value e v h =
    let is : IsValue tag c value = record { one_byte = rw (← e) v.one_byte; fits = v.fits; bytes_are = v.bytes_are ∙ ap (λ (n : ℕ). value_of n c) e } in
    let read : value_at tag value ≡ Ok (c, []) = ap (value_at tag) (sym (append-nil value)) ∙ IsValue-again tag c value [] is in
    let same : c ≡ d = some_is c d (sym (ap contents_in read) ∙ h) in
    is.bytes_are ∙ ap (value_of tag.0) same

value_is : (tag : Tag) (value d : List ℕ) → IsOneValue value → contents_in (value_at tag value) ≡ Some d → value ≡ value_of tag.0 d
value_is tag value d v h =
    elim (eqb v.tag.0 tag.0) as (λ b. eqb v.tag.0 tag.0 ≡ b → value ≡ value_of tag.0 d) [
      | true ↦ λ e. same_tag tag v.tag.0 v.contents d value (eqb-true v.tag.0 tag.0 e) v.value h
      | false ↦ λ e. absurd (cc (other_tag tag v.tag.0 v.contents e, ap (λ (s : List ℕ). contents_in (value_at tag s)) v.value.bytes_are, h))
    ] refl

-- a set whose one value has this tag is that value alone
single_is : (tag : Tag) (set : List (List ℕ)) (d : List ℕ) → AllFormed IsOneValue set → single tag set ≡ Some d → set ≡ value_of tag.0 d ∷ []
single_is tag [] d h e = absurd cc
single_is tag (value ∷ []) d h e = ap (λ (v : List ℕ). v ∷ []) (value_is tag value d h.0 e)
single_is tag (value ∷ another ∷ more) d h e = absurd cc

bmp_is : (o : Option (List ℕ)) (d : List ℕ) → if_bmp o ≡ Some d → o ≡ Some d
bmp_is None d e = absurd cc
bmp_is (Some octets) d e = elim (chosen (is_bmp octets) (Some octets) None (Some d) e) [
  | inl h ↦ h.1
  | inr h ↦ absurd (cc h.1)
]

-- ---- attributes

abbrev pair : List ℕ → List (List ℕ) → AttributeValue
pair oid set = (oid, set)

-- what is read of an identifier and its values is written as them
module _ (x : AttributeValue) (h : (one identifier and one values).in_form x) where
  kept : (make : List ℕ → Pkcs12Attribute) (o : Option (List ℕ)) → ((d : List ℕ) → o ≡ Some d → attribute_parts (make d) ≡ x) → attribute_parts (or_unknown make x o) ≡ x
  kept make None k = refl
  kept make (Some d) k = k d refl

  both_are : (oid : List ℕ) (set : List (List ℕ)) → x.0 ≡ oid → x.1 ≡ set → ◌≡◌ {A = AttributeValue} (oid, set) x
  both_are oid set a b = sym (ap (λ (o : List ℕ). pair o x.1) a ∙ ap (λ (v : List (List ℕ)). pair oid v) b)

  named : is_known known.FriendlyName x.0 ≡ true → (d : List ℕ) → name_in x.1 ≡ Some d → attribute_parts (FriendlyName d) ≡ x
  unfolding values
  named is d e = both_are (arcs known.FriendlyName) (value_of 30 d ∷ []) ((tells known.FriendlyName).alone x.0 h.0 is) (single_is (record { 0 = 30 }) x.1 d h.1 (bmp_is (single (record { 0 = 30 }) x.1) d e))

  keyed : is_known known.LocalKeyId x.0 ≡ true → (d : List ℕ) → octets_in x.1 ≡ Some d → attribute_parts (LocalKeyId d) ≡ x
  unfolding values
  keyed is d e = both_are (arcs known.LocalKeyId) (value_of 4 d ∷ []) ((tells known.LocalKeyId).alone x.0 h.0 is) (single_is (record { 0 = 4 }) x.1 d h.1 e)

  written_as_read : attribute_parts (attribute_of x) ≡ x
  unfolding attribute_of
  written_as_read =
      elim (is_known known.FriendlyName x.0) as (λ b. is_known known.FriendlyName x.0 ≡ b → attribute_parts (cond b (or_unknown FriendlyName x (name_in x.1)) (cond (is_known known.LocalKeyId x.0) (or_unknown LocalKeyId x (octets_in x.1)) (Unknown x.0 x.1))) ≡ x) [
        | true ↦ λ e. kept FriendlyName (name_in x.1) (named e)
        | false ↦ λ _. elim (is_known known.LocalKeyId x.0) as (λ b. is_known known.LocalKeyId x.0 ≡ b → attribute_parts (cond b (or_unknown LocalKeyId x (octets_in x.1)) (Unknown x.0 x.1)) ≡ x) [
          | true ↦ λ e. kept LocalKeyId (octets_in x.1) (keyed e)
          | false ↦ λ _. refl
        ] refl
      ] refl

values_lawful : Lawful values
unfolding values
values_lawful = record { readable = list_readable raw_form raw_readable (record { 0 = 49 }); writable = list_writable raw_form raw_writable (record { 0 = 49 }) (λ h. absurd (omega arith)) }

pub attribute_lawful : Lawful attribute
unfolding attribute attribute_fields
attribute_lawful = sequence_lawful (seen_again_lawful (sees_as_written {to = attribute_of} {from = attribute_parts} written_as_read) (and_lawful (λ _ _. refl) (one_lawful identifier_lawful) (one_lawful values_lawful)))

pub attributes_lawful : Lawful attributes
unfolding attributes
attributes_lawful = record { readable = list_readable attribute attribute_lawful.readable (record { 0 = 49 }); writable = list_writable attribute attribute_lawful.writable (record { 0 = 49 }) (λ h. absurd (omega arith)) }

-- ---- names and ids are in form

-- the one value of a set that holds one
single_again : (tag : Tag) (c : List ℕ) → tag.0 % 32 ≢ 31 → length c < 2 ^ 64 → single tag (value_of tag.0 c ∷ []) ≡ Some c
single_again tag c one_byte fits =
    ap contents_in (ap (value_at tag) (sym (append-nil (value_of tag.0 c))) ∙ value_again tag c [] one_byte fits)

one_value : (tag : Tag) (c : List ℕ) → tag.0 % 32 ≢ 31 → length c < 2 ^ 64 → IsOneValue (value_of tag.0 c)
one_value tag c one_byte fits = record { tag = tag; contents = c; value = record { one_byte = one_byte; fits = fits; bytes_are = refl } }

pub name_formed : (name : List ℕ) → IsBmp name → length name < 2 ^ 64 → attribute.in_form (FriendlyName name)
unfolding attribute attribute_fields values attribute_of
name_formed name bmp fits =
    let tag : Tag = record { 0 = 30 } in (
      ((tells known.FriendlyName).formed, (one_value tag name (omega arith) fits, tt)),
      rw ((tells known.FriendlyName).holds, single_again tag name (omega arith) fits, (bmp_decides name).1 bmp) refl,
    )

id_is_no_name : is_known known.FriendlyName (arcs known.LocalKeyId) ≡ false
unfolding is_known arcs base128 continued
id_is_no_name = refl

pub id_formed : (id : List ℕ) → length id < 2 ^ 64 → attribute.in_form (LocalKeyId id)
unfolding attribute attribute_fields values attribute_of
id_formed id fits =
    let tag : Tag = record { 0 = 4 } in (
      ((tells known.LocalKeyId).formed, (one_value tag id (omega arith) fits, tt)),
      rw (id_is_no_name, (tells known.LocalKeyId).holds, single_again tag id (omega arith) fits) refl,
    )

-- ---- what is written

-- a value alone in a set
pub single_wrote : (tag : Tag) (c value : List ℕ) → IsValue tag c value → SpellsAll raw_form.Encodes value (value_of tag.0 c ∷ [])
single_wrote tag c value v =
    (value, [], sym (append-nil value), (record { tag = tag; contents = c; value = record { one_byte = v.one_byte; fits = v.fits; bytes_are = refl } }, v.bytes_are), refl)
