-- INTEGER values: the two's complement number of their octets, the high one first (X.690 section 8.3).
use Rattle.std.specs.Prelude.{◌≡◌, ℕ, ◌+◌, ◌*◌, ◌<◌, ◌≤◌, ◌^◌, List, [], ◌∷◌, length, ℤ, pos, ◌-ℤ◌, if◌then◌else◌, nat_lt, nat_le, ◌==◌, ◌&&◌, Bool}

-- the number of bytes, the high one first
abbrev pub unsigned_of : List ℕ → ℕ
unsigned_of [] = 0
unsigned_of (b ∷ bs) = b * 256 ^ length bs + unsigned_of bs

-- the two's complement number, 0 where there is no byte
abbrev pub int_of : List ℕ → ℤ
int_of [] = pos 0
int_of (b ∷ bs) =
    if nat_lt b 128 then pos (unsigned_of (b ∷ bs))
    else pos (unsigned_of (b ∷ bs)) -ℤ pos (256 ^ length (b ∷ bs))

-- there is a byte, and the first nine bits aren't all alike (X.690 section 8.3.2)
abbrev pub IsShortest : List ℕ → Type 0
IsShortest [] = ⊥
IsShortest (b ∷ []) = Unit {0}
IsShortest (b ∷ c ∷ bs) = (b ≡ 0 → 128 ≤ c) × (b ≡ 255 → c < 128)

-- the bytes, with one 00 for none
abbrev pub some_bytes : List ℕ → List ℕ
some_bytes [] = 0 ∷ []
some_bytes (b ∷ bs) = b ∷ bs

-- the same without one 00 in front of others
abbrev pub without_sign_byte : List ℕ → List ℕ
without_sign_byte [] = 0 ∷ []
without_sign_byte (b ∷ []) = b ∷ []
without_sign_byte (b ∷ c ∷ bs) = if b == 0 then c ∷ bs else b ∷ c ∷ bs

-- a byte all of whose bits are the sign of the next byte
abbrev pub repeats_sign : ℕ → ℕ → Bool
repeats_sign b c = if b == 0 then nat_lt c 128 else b == 255 && nat_le 128 c

-- the bytes without those in front that repeat the sign of the next
abbrev pub shortened : List ℕ → List ℕ
shortened [] = []
shortened (b ∷ []) = b ∷ []
shortened (b ∷ c ∷ bs) =
    if repeats_sign b c then shortened (c ∷ bs) else b ∷ c ∷ bs

-- the shortest spelling of the number of big-endian bytes; no byte stays no byte
abbrev pub unsigned_spelling : List ℕ → List ℕ
unsigned_spelling [] = []
unsigned_spelling (b ∷ bs) = shortened (if nat_lt b 128 then b ∷ bs else 0 ∷ b ∷ bs)
