-- An entry: SEQUENCE { kind OBJECT IDENTIFIER, value [0] EXPLICIT ANY DEFINED BY kind } (own).
use Rattle.std.specs.Prelude.{◌^◌, ◌⊎◌}
use Rattle.picky_fields.specs.Forms.{ℕ, List, inl, inr, string_bytes, arith, Fields, one, sequence, explicit, text, natural, identifier, raw_form, known, otherwise, told_by}
use Rattle.picky_fields.specs.laws.Forms.{Lawful, one_lawful, sequence_lawful, explicit_lawful, known_lawful, otherwise_lawful, told_lawful, identifier_lawful, natural_lawful, text_lawful, raw_lawful}
use Rattle.der_examples.specs.declared.TheConstants.{NAME, COUNT}
use Rattle.der_examples.specs.declared.entry.Entry.{Entry}
use Rattle.der_examples.specs.declared.entry.Entry.TheVariants.{Name, Count, Unknown}
use Rattle.der_examples.specs.Identifiers.{name, count, name_known, count_known}

abbrev pub EntryValue : Type 0
EntryValue = List ℕ ⊎ (ℕ ⊎ (List ℕ × List ℕ))

abbrev pub entry_value : Entry → EntryValue
entry_value (Name text) = inl (string_bytes text)
entry_value (Count n) = inr (inl n)
entry_value (Unknown kind value) = inr (inr (kind, value))

unfoldable pub entry_fields : Fields EntryValue
entry_fields = told_by identifier (known name NAME (one (explicit 0 text)) (known count COUNT (one (explicit 0 (natural (2 ^ 32)))) (otherwise (one (explicit 0 raw_form)))))

pub entry_lawful : Lawful (sequence entry_fields)
unfolding entry_fields
entry_lawful =
    let texts = one_lawful (explicit_lawful 0 (omega arith) text_lawful) in
    let numbers = one_lawful (explicit_lawful 0 (omega arith) (natural_lawful (2 ^ 32) (omega arith))) in
    let others = otherwise_lawful (one_lawful (explicit_lawful 0 (omega arith) raw_lawful)) in
    sequence_lawful (told_lawful identifier_lawful (known_lawful name_known texts (known_lawful count_known numbers others)))
