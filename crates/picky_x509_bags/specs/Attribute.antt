-- Attributes of bags: SEQUENCE { attrId OBJECT IDENTIFIER, attrValues SET OF ANY } (RFC 7292 section 4.2); a friendlyName is one BMPString, a localKeyId one OCTET STRING (RFC 2985 section 5.5).
use Rattle.std.specs.Prelude.{ℕ, if◌then◌else◌, List, [], ◌∷◌, Option, Some, None, Result, Ok, Err}
use Rattle.picky_asn1_tag.specs.declared.tag.Tag.{Tag}
use Rattle.picky_der.specs.declared.fault.DerError.{DerError}
use Rattle.picky_der.specs.Form.{Form}
use Rattle.picky_der.specs.Length.{value_of}
use Rattle.picky_der.specs.Raw.{raw_form}
use Rattle.picky_der.specs.Reading.{value_at}
use Rattle.picky_fields.specs.Fields.{Fields, identifier, one, ◌and◌, sequence}
use Rattle.picky_fields.specs.SeenAgain.{seen_again}
use Rattle.picky_asn1_simple.specs.Sets.{is_bmp}
use Rattle.picky_asn1_wrapper.specs.Lists.{list_form}
use Rattle.picky_x509_algorithms.specs.declared.known_identifier.KnownIdentifier.TheVariants as known
use Rattle.picky_x509_algorithms.specs.Identifiers.{arcs, is_known}
use Rattle.picky_x509_bags.specs.declared.attribute.Pkcs12Attribute.{Pkcs12Attribute}
use Rattle.picky_x509_bags.specs.declared.attribute.Pkcs12Attribute.TheVariants.{FriendlyName, LocalKeyId, Unknown}

-- an identifier, and the values of its set
abbrev pub AttributeValue : Type 0
AttributeValue = List ℕ × List (List ℕ)

-- ---- the one value of a set

abbrev pub contents_in : Result (List ℕ × List ℕ) DerError → Option (List ℕ)
contents_in (Ok v) = Some v.0
contents_in (Err e) = None

-- the contents of the one value of a set, where it holds one, and of this tag
abbrev pub single : Tag → List (List ℕ) → Option (List ℕ)
single tag [] = None
single tag (value ∷ []) = contents_in (value_at tag value)
single tag (value ∷ another ∷ more) = None

abbrev pub if_bmp : Option (List ℕ) → Option (List ℕ)
if_bmp None = None
if_bmp (Some octets) = if is_bmp octets then Some octets else None

-- the BMPString that a set is
abbrev pub name_in : List (List ℕ) → Option (List ℕ)
name_in values = if_bmp (single (record { 0 = 30 }) values)

-- the OCTET STRING that a set is
abbrev pub octets_in : List (List ℕ) → Option (List ℕ)
octets_in values = single (record { 0 = 4 }) values

-- ---- attributes

abbrev pub or_unknown : (List ℕ → Pkcs12Attribute) → AttributeValue → Option (List ℕ) → Pkcs12Attribute
or_unknown make x None = Unknown x.0 x.1
or_unknown make x (Some octets) = make octets

-- what an identifier and its values are: known ones where the set is one value of their type
unfoldable pub attribute_of : AttributeValue → Pkcs12Attribute
attribute_of x =
    if is_known known.FriendlyName x.0 then or_unknown FriendlyName x (name_in x.1)
    else if is_known known.LocalKeyId x.0 then or_unknown LocalKeyId x (octets_in x.1)
    else Unknown x.0 x.1

-- what is written of an attribute
abbrev pub attribute_parts : Pkcs12Attribute → AttributeValue
attribute_parts (FriendlyName name) = (arcs known.FriendlyName, value_of 30 name ∷ [])
attribute_parts (LocalKeyId id) = (arcs known.LocalKeyId, value_of 4 id ∷ [])
attribute_parts (Unknown oid value) = (oid, value)

-- a SET of any values
unfoldable pub values : Form (List (List ℕ))
values = list_form (record { 0 = 49 }) raw_form

unfoldable pub attribute_fields : Fields Pkcs12Attribute
attribute_fields = seen_again attribute_of attribute_parts (one identifier and one values)

-- In form is an attribute that is read back as itself: an Unknown one is none of the known ones, with one value of their type.
unfoldable pub attribute : Form Pkcs12Attribute
attribute = sequence attribute_fields

-- the SET of the attributes of a bag
unfoldable pub attributes : Form (List Pkcs12Attribute)
attributes = list_form (record { 0 = 49 }) attribute
