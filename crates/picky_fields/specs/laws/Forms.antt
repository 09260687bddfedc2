-- What the laws of a record are made of, under one name.
pub use Rattle.picky_fields.specs.laws.Fields.{LawfulFields, Lawful, nothing_lawful, one_lawful, and_lawful, seen_lawful, one_to_one, enclosed_lawful, sequence_lawful, explicit_lawful, other_tag, neither_begins, takes_neither}
pub use Rattle.picky_fields.specs.laws.Optional.{only_lawful, optional_lawful, optional_last_lawful, defaulted_lawful, null_or_none_lawful}
pub use Rattle.picky_fields.specs.laws.Plain.{identifier_lawful, integer_lawful, natural_lawful, text_lawful, octets_lawful, null_lawful, raw_lawful}
pub use Rattle.picky_fields.specs.laws.Choice.{LawfulCases, case_lawful, otherwise_lawful, told_lawful}
pub use Rattle.picky_fields.specs.laws.Either.{either_lawful}
pub use Rattle.picky_fields.specs.laws.Identifiers.{Known, known_tells}
pub use Rattle.picky_fields.specs.laws.Known.{known_lawful}
pub use Rattle.picky_fields.specs.laws.Heights.{NestsAndIsFormed, one_nests, optional_nests, optional_last_nests, and_nests, seen_nests, sequence_nests, sequence_written}
