-- How many of the texts that a seed makes are admissible, each over its own record (own).
use Rattle.std.specs.Prelude.{◌≡◌, ◌⊎◌, ℕ, zero, suc, List, Some, None}
use Rattle.std.specs.FinMap.{empty, insert}
use Rattle.picky_key.specs.declared.algorithm.SignatureAlgorithm.TheVariants.{Ed25519}
use Rattle.picky_jose.specs.Validator.{lenient}
use Rattle.picky_records.specs.declared.line.Line.{Line}
use Rattle.picky_records.specs.Meanings.{signs_by}
use Rattle.picky_records.specs.Records.{AreRecords}
use Rattle.picky_ring.specs.declared.ring.RingEntry.{RingEntry}
use Rattle.picky_ring.specs.declared.ring.RingEntry.TheVariants.{Verify}
use Rattle.picky_ring.specs.TextMap.{TextMap}
use Rattle.picky_generate.specs.Texts.{key_name, key, text, record_line}
use Rattle.picky_generate.specs.Words.{word}
use Rattle.picky_gate.specs.declared.policy.Policy.{Policy}
use Rattle.picky_gate.specs.Admissible.{Admission, Admissible}
use Rattle.picky_gate.specs.Moment.{date_at}
use Rattle.picky_gate.specs.Request.{asked_of}

-- the ring of the first n keys
abbrev pub first_keys : ℕ → TextMap RingEntry
first_keys zero = empty
first_keys (suc d) = insert (first_keys d) (key_name d) (Verify (key d) Ed25519)

-- the ring of the eight keys
abbrev pub eight_keys : TextMap RingEntry
eight_keys = first_keys 8

-- moment 0, and lenient checks of dates
abbrev pub at_zero : Policy
at_zero = record { validator = lenient (date_at 0 0); now = Some 0; leeway = 0 }

-- the text is admissible over this records document alone, with the eight keys, at moment 0, and without a request
pub record IsGoodWith (document t : List ℕ) : Type 0 where
  pub records : List Line
  pub are_records : AreRecords document records
  pub admission : Admission
  pub admissible : Admissible (signs_by records) eight_keys at_zero (asked_of None) t admission

-- the text of the word w and its number i is so, over its own record
unfoldable pub IsGood : ℕ → ℕ → Type 0
IsGood w i = IsGoodWith (record_line w i) (text w i)

-- b is one more than a where P holds, and a where it doesn't
abbrev pub IsCounted : Type 0 → ℕ → ℕ → Type 0
IsCounted P a b = (P × (b ≡ suc a)) ⊎ ((¬ P) × (b ≡ a))

-- a of the first n texts of the seed are admissible
abbrev pub Counts : ℕ → ℕ → ℕ → Type 0
Counts seed zero a = a ≡ 0
Counts seed (suc n) a = (b : ℕ) × Counts seed n b × IsCounted (IsGood (word seed n) n) b a
