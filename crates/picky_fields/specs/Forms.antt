-- What the form of a record is written with, under one name.
pub use Rattle.std.specs.Prelude.{ℕ, ◌+◌, ◌^◌, ◌==◌, List, [], ◌∷◌, Option, Some, None, ◌⊎◌, string_bytes}
pub use Rattle.std.proofs.Common.{refl, arith, rules, inl, inr}
pub use Rattle.picky_der.specs.Form.{Form}
pub use Rattle.picky_der.specs.Raw.{raw_form}
pub use Rattle.picky_fields.specs.Fields.{Fields, nothing, one, only, optional, optional_last, defaulted, ◌and◌, seen, sequence, identifier, integer, natural, text, octet_string, null, null_or_none}
unfoldable pub use Rattle.picky_fields.specs.Fields.{explicit}
pub use Rattle.picky_fields.specs.Choice.{Cases, case, otherwise, told_by, has_contents, either}
pub use Rattle.picky_fields.specs.Known.{known}
pub use Rattle.picky_fields.specs.Records.{fields_by}
