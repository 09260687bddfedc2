-- A batch: SEQUENCE { name UTF8String, size INTEGER (0..4294967295) DEFAULT 1, owner OBJECT IDENTIFIER OPTIONAL, mark [0] EXPLICIT OCTET STRING OPTIONAL } (own).
use Rattle.std.specs.Prelude.{◌^◌, ◌==◌}
use Rattle.std.proofs.lemmas.Bool.{eqb-true}
use Rattle.picky_fields.specs.Forms.{ℕ, List, Option, arith, refl, Fields, one, defaulted, optional, ◌and◌, sequence, explicit, text, natural, identifier, octet_string}
use Rattle.picky_fields.specs.laws.Forms.{Lawful, one_lawful, and_lawful, sequence_lawful, explicit_lawful, other_tag, takes_neither, defaulted_lawful, optional_lawful, identifier_lawful, natural_lawful, text_lawful, octets_lawful}

abbrev pub BatchValue : Type 0
BatchValue = ((List ℕ × ℕ) × Option (List ℕ)) × Option (List ℕ)

unfoldable pub batch_fields : Fields BatchValue
batch_fields = one text and defaulted 1 (λ n. n == 1) (natural (2 ^ 32)) and optional identifier and optional (explicit 0 octet_string)

pub batch_lawful : Lawful (sequence batch_fields)
unfolding batch_fields explicit
batch_lawful =
    let name = one_lawful text_lawful in
    let size = defaulted_lawful {d = 1} {is_default = λ n. n == 1} (λ n h. eqb-true n 1 h) (omega arith) (natural_lawful (2 ^ 32) (omega arith)) in
    let owner = optional_lawful identifier_lawful in
    let mark = optional_lawful (explicit_lawful 0 (omega arith) octets_lawful) in
    sequence_lawful (and_lawful (takes_neither (other_tag 2 160 refl) (other_tag 6 160 refl)) (and_lawful (other_tag 2 6 refl) (and_lawful (λ _ _. refl) name size) owner) mark)
