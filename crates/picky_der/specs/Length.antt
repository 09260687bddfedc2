-- Lengths of contents: the definite form in its fewest bytes (X.690 sections 8.1.3.3 to 8.1.3.5 and 10.1).
use Rattle.std.specs.Prelude.{◌≡◌, ◌≢◌, ℕ, zero, suc, ◌+◌, ◌<◌, ◌≤◌, ◌⊎◌, List, [], ◌∷◌, ◌++◌, length, slice_index, if◌then◌else◌, nat_lt}
use Rattle.std.proofs.Common.{get_or}
use Rattle.std.specs.Int.{w64, to_be_bytes}
use Rattle.picky_asn1_bits.specs.Integer.{unsigned_of}

-- each number is one of a byte
abbrev pub IsBytes : List ℕ → Type 0
IsBytes bytes = (i : ℕ) → get_or bytes i 0 < 256

-- each number after the first is one of a byte
abbrev pub TailIsBytes : List ℕ → Type 0
TailIsBytes [] = Unit {0}
TailIsBytes (b ∷ bs) = IsBytes bs

-- the short form: one byte below 128
pub record IsShortForm (bytes : List ℕ) (n : ℕ) : Type 0 where
  pub bytes_are : bytes ≡ n ∷ []
  pub below : n < 128

-- the long form: 128 and the count of length bytes, 1 to 8, and then these; they are the fewest, since
-- the first isn't zero, and the length doesn't fit the short form
pub record IsLongForm (bytes : List ℕ) (n : ℕ) : Type 0 where
  pub length_bytes : List ℕ
  pub bytes_are : bytes ≡ (128 + length length_bytes) ∷ length_bytes
  pub are_bytes : IsBytes length_bytes
  pub some : 1 ≤ length length_bytes
  pub few : length length_bytes ≤ 8
  pub first : slice_index length_bytes 0 ≢ 0
  pub number : unsigned_of length_bytes ≡ n
  pub not_short : 128 ≤ n

-- the bytes spell the length
abbrev pub SpellsLength : List ℕ → ℕ → Type 0
SpellsLength bytes n = IsShortForm bytes n ⊎ IsLongForm bytes n

-- the bytes after their leading zeros
abbrev pub without_zeros : List ℕ → List ℕ
without_zeros [] = []
without_zeros (zero ∷ bs) = without_zeros bs
without_zeros (suc b ∷ bs) = suc b ∷ bs

-- the fewest bytes of a number below 2^64, the most significant first
unfoldable pub digits : ℕ → List ℕ
digits n = without_zeros (to_be_bytes w64 n)

-- the one spelling of a length below 2^64
unfoldable pub length_of : ℕ → List ℕ
length_of n = if nat_lt n 128 then n ∷ [] else (128 + length (digits n)) ∷ digits n

-- a value: its tag, the length of its contents, its contents (X.690 section 8.1.1)
unfoldable pub value_of : ℕ → List ℕ → List ℕ
value_of tag contents = tag ∷ length_of (length contents) ++ contents
