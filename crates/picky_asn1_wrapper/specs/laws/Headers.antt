-- The laws of a tag with no contents.
use Rattle.std.proofs.Common.{◌≢◌, ◌%◌}
use Rattle.picky_asn1_tag.specs.declared.tag.Tag.{Tag}
use Rattle.picky_der.specs.Form.{Readable, Writable, Tagged}
use Rattle.picky_der.specs.Primitive.{primitive_form}
use Rattle.picky_der.specs.Plain.{null_contents}
use Rattle.picky_der.specs.laws.Plain.{null_decodes}
use Rattle.picky_der.specs.laws.Primitives.{primitive_readable, primitive_writable, primitive_tagged}

pub header_readable : (tag : Tag) → Readable (primitive_form tag null_contents)
header_readable tag = primitive_readable tag null_contents null_decodes

pub header_writable : (tag : Tag) → tag.0 % 32 ≢ 31 → Writable (primitive_form tag null_contents)
header_writable tag one_byte = primitive_writable tag null_contents null_decodes one_byte

pub header_tagged : (tag : Tag) → Tagged tag (primitive_form tag null_contents)
header_tagged tag = primitive_tagged tag null_contents
