-- A value of any type, kept as its bytes (own).
use Rattle.std.specs.Prelude.{◌≡◌, ℕ, ◌%◌, ◌==◌, not, List, Result, Ok}
use Rattle.picky_der.specs.declared.fault.DerError.{DerError}
use Rattle.picky_der.specs.Reading.{◌>>=◌, raw_at, end_at}
use Rattle.picky_der.specs.Form.{Form, IsOneValue}

-- the bytes, where they are one value and nothing after it, else the first fault
unfoldable pub raw_whole : List ℕ → Result (List ℕ) DerError
raw_whole bytes = raw_at bytes >>= λ v. end_at v.1 >>= λ _. Ok bytes

-- Bytes that are one value spell themselves.
abbrev pub raw_form : Form (List ℕ)
raw_form = record {
  in_form = IsOneValue;
  Spells = λ s x. s ≡ x;
  height = λ _ _ _. 0;
  Encodes = λ s x. IsOneValue x × (s ≡ x);
  encoding = λ x. x;
  Refused = λ x. ¬ IsOneValue x;
  begins = λ b. not (b % 32 == 31);
  reading = λ _ bytes. raw_at bytes;
}
