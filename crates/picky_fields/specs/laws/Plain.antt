-- The laws of the plain types that records hold.
use Rattle.std.proofs.Common.{ℕ, ◌≤◌, ◌^◌}
use Rattle.picky_der.specs.Raw.{raw_form}
use Rattle.picky_der.specs.laws.Identifier.{identifier_readable, identifier_writable}
use Rattle.picky_der.specs.laws.Natural.{natural_readable, natural_writable}
use Rattle.picky_der.specs.laws.Plain.{null_readable, null_writable, utf8_readable, utf8_writable}
use Rattle.picky_der.specs.laws.Raw.{raw_readable, raw_writable}
use Rattle.picky_der.specs.laws.Strings.{integer_readable, integer_writable, octets_readable, octets_writable}
use Rattle.picky_fields.specs.Fields.{identifier, integer, natural, text, octet_string, null}
use Rattle.picky_fields.specs.laws.Fields.{Lawful}

pub identifier_lawful : Lawful identifier
identifier_lawful = record { readable = identifier_readable; writable = identifier_writable }

pub integer_lawful : Lawful integer
integer_lawful = record { readable = integer_readable; writable = integer_writable }

pub natural_lawful : (limit : ℕ) → limit ≤ 2 ^ 128 → Lawful (natural limit)
natural_lawful limit small = record { readable = natural_readable limit small; writable = natural_writable limit small }

pub text_lawful : Lawful text
text_lawful = record { readable = utf8_readable; writable = utf8_writable }

pub octets_lawful : Lawful octet_string
octets_lawful = record { readable = octets_readable; writable = octets_writable }

pub null_lawful : Lawful null
null_lawful = record { readable = null_readable; writable = null_writable }

-- a value of any type
pub raw_lawful : Lawful raw_form
raw_lawful = record { readable = raw_readable; writable = raw_writable }
