-- Identifier octets: class, encoding and a number below 31 in one byte (X.690 section 8.1.2; universal numbers by X.680 section 8.4, table 1).
use Rattle.std.specs.Prelude.{ℕ, ◌+◌, ◌*◌, ◌/◌, ◌%◌, ◌==◌, ◌++◌, List, if◌then◌else◌, codes, Option, Some, None, unwrap_or}
use Rattle.picky_asn1_tag.specs.Hex.{hex_byte}
use Rattle.picky_asn1_tag.specs.declared.tag.TagClass.{TagClass}
use Rattle.picky_asn1_tag.specs.declared.tag.TagClass.TheVariants.{Universal, Application, ContextSpecific, Private}
use Rattle.picky_asn1_tag.specs.declared.tag.Encoding.{Encoding}
use Rattle.picky_asn1_tag.specs.declared.tag.Encoding.TheVariants.{Primitive, Constructed}

-- bits 8 and 7
abbrev pub class_bits : TagClass → ℕ
class_bits Universal = 0
class_bits Application = 1
class_bits ContextSpecific = 2
class_bits Private = 3

-- bit 6
abbrev pub encoding_bit : Encoding → ℕ
encoding_bit Primitive = 0
encoding_bit Constructed = 1

-- the byte of a class, an encoding and a number, of which the low five bits count
abbrev pub byte_of : TagClass → Encoding → ℕ → ℕ
byte_of class encoding number = 64 * class_bits class + 32 * encoding_bit encoding + number % 32

-- the class with these two bits
abbrev pub class_with : ℕ → TagClass
class_with bits =
    if bits == 0 then Universal
    else (if bits == 1 then Application else (if bits == 2 then ContextSpecific else Private))

-- the class of a byte
abbrev pub class_of : ℕ → TagClass
class_of byte = class_with (byte / 64)

-- the encoding of a byte
abbrev pub encoding_of : ℕ → Encoding
encoding_of byte = if byte / 32 % 2 == 1 then Constructed else Primitive

-- the number of a byte
abbrev pub number_of : ℕ → ℕ
number_of byte = byte % 32

-- the three parts of a byte
abbrev pub components_of : ℕ → TagClass × Encoding × ℕ
components_of byte = (class_of byte, encoding_of byte, number_of byte)

abbrev pub class_text : TagClass → List ℕ
class_text Universal = codes "UNIVERSAL"
class_text Application = codes "APPLICATION"
class_text ContextSpecific = codes "CONTEXT_SPECIFIC"
class_text Private = codes "PRIVATE"

abbrev pub encoding_text : Encoding → List ℕ
encoding_text Primitive = codes "PRIMITIVE"
encoding_text Constructed = codes "CONSTRUCTED"

-- the name of a universal type, by the whole byte
unfoldable pub name_of : ℕ → Option (List ℕ)
name_of byte =
    if byte == 1 then Some (codes "BOOLEAN")
    else (if byte == 2 then Some (codes "INTEGER")
    else (if byte == 3 then Some (codes "BIT STRING")
    else (if byte == 4 then Some (codes "OCTET STRING")
    else (if byte == 5 then Some (codes "NULL")
    else (if byte == 6 then Some (codes "OBJECT IDENTIFIER")
    else (if byte == 9 then Some (codes "REAL")
    else (if byte == 12 then Some (codes "UTF8String")
    else (if byte == 13 then Some (codes "RELATIVE-OID")
    else (if byte == 18 then Some (codes "NumericString")
    else (if byte == 19 then Some (codes "PrintableString")
    else (if byte == 20 then Some (codes "TeletexString")
    else (if byte == 21 then Some (codes "VideotexString")
    else (if byte == 22 then Some (codes "IA5String")
    else (if byte == 23 then Some (codes "UTCTime")
    else (if byte == 24 then Some (codes "GeneralizedTime")
    else (if byte == 27 then Some (codes "GeneralString")
    else (if byte == 30 then Some (codes "BMPString")
    else (if byte == 48 then Some (codes "SEQUENCE")
    else (if byte == 49 then Some (codes "SET")
    else None)))))))))))))))))))

-- what `{}` prints
unfoldable pub tag_text : ℕ → List ℕ
tag_text byte =
    unwrap_or (name_of byte) (class_text (class_of byte) ++ codes "(" ++ hex_byte (number_of byte) ++ codes ") " ++ encoding_text (encoding_of byte))

-- what `{:?}` prints
abbrev pub debug_text : ℕ → List ℕ
debug_text byte = codes "Tag(" ++ tag_text byte ++ codes "[" ++ hex_byte byte ++ codes "])"
