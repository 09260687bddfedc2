-- BIT STRING values: a count of unused bits, and a payload whose first bit is the high bit of its first byte (X.690 section 8.6.2).
use Rattle.std.specs.Prelude.{◌≡◌, ◌≢◌, ◌⊎◌, ℕ, ◌+◌, ◌-◌, ◌*◌, ◌/◌, ◌%◌, ◌<◌, ◌≤◌, ◌^◌, Bool, true, false, List, ◌∷◌, ◌++◌, length, take, drop, slice_index}
use Rattle.std.specs.Int.{bit_at}

-- how many bits of the last byte are unused
abbrev pub unused : List ℕ → ℕ
unused bytes = slice_index bytes 0

-- the bytes after the count
abbrev pub payload : List ℕ → List ℕ
payload bytes = drop 1 bytes

-- the count stays, and these bytes are the payload. Bytes of another length are cut, or filled up from the payload, so that its length stays
abbrev pub with_payload : List ℕ → List ℕ → List ℕ
with_payload bytes new =
    unused bytes ∷ take (length (payload bytes)) (new ++ drop (length new) (payload bytes))

-- how many bits it has
abbrev pub bit_count : List ℕ → ℕ
bit_count bytes = 8 * (length bytes - 1) - unused bytes

-- bit i: the bit of value 128 shifted right by i mod 8, in byte i div 8 of the payload; 0 past the end
abbrev pub bit : List ℕ → ℕ → ℕ
bit bytes i = bit_at (slice_index bytes (1 + i / 8)) (7 - i % 8)

abbrev pub bit_of : Bool → ℕ
bit_of true = 1
bit_of false = 0

-- the count is 0 to 7, and 0 where the payload is empty; the number of bits fits 64 bits
pub record IsBitString (bytes : List ℕ) : Type 0 where
  pub counted : 0 < length bytes
  pub count_below : unused bytes < 8
  pub count_of_none : length bytes ≡ 1 → unused bytes ≡ 0
  pub fits : bit_count bytes < 2 ^ 64

-- bit i has this value, and all else is as it was
pub record SetsBit (old new : List ℕ) (i value : ℕ) : Type 0 where
  pub same_length : length new ≡ length old
  pub same_count : unused new ≡ unused old
  pub here : bit new i ≡ value
  pub others : (j : ℕ) → j ≢ i → bit new j ≡ bit old j

-- this many bits; those below both numbers are as they were, and all others, unused ones too, are 0
pub record Resizes (old new : List ℕ) (count : ℕ) : Type 0 where
  pub counted : bit_count new ≡ count
  pub kept : (i : ℕ) → i < bit_count old → i < count → bit new i ≡ bit old i
  pub cleared : (i : ℕ) → (bit_count old ≤ i) ⊎ (count ≤ i) → bit new i ≡ 0
