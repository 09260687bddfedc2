-- What reading gives: a value and the bytes after it, or the fault at the first bad place (X.690 sections 8.1.2, 8.1.3 and 10.1; the order of faults is own).
use Rattle.std.specs.Prelude.{◌≡◌, ℕ, ◌-◌, ◌%◌, ◌==◌, ◌||◌, List, [], ◌∷◌, length, take, drop, if◌then◌else◌, nat_lt, nat_le, Result, Ok, Err, slice_index}
use Rattle.picky_asn1_bits.specs.Integer.{unsigned_of}
use Rattle.picky_asn1_tag.specs.declared.tag.Tag.{Tag}
use Rattle.picky_der.specs.declared.fault.DerError.{DerError}
use Rattle.picky_der.specs.declared.fault.DerError.TheVariants.{Truncated, WrongTag, BadLength, BadValue, TrailingBytes, TooDeep, OutOfMemory}
use Rattle.picky_der.specs.View.{Place}

-- one step of reading, and then the next; the first fault is the fault
infixl 10 ◌>>=◌
abbrev pub ◌>>=◌ : {A B : Type 0} → Result A DerError → (A → Result B DerError) → Result B DerError
(Ok x) >>= next = next x
(Err e) >>= next = Err e

-- ---- a header and its contents

-- so many length bytes after the first: missing ones before bad ones
unfoldable pub long_at : ℕ → List ℕ → Result (ℕ × List ℕ) DerError
long_at k bytes =
    if nat_lt (length bytes) k then Err Truncated
    else if k == 0 || nat_lt 8 k then Err BadLength
    else if slice_index (take k bytes) 0 == 0 || nat_lt (unsigned_of (take k bytes)) 128 then Err BadLength
    else Ok (unsigned_of (take k bytes), drop k bytes)

-- a length
unfoldable pub length_at : List ℕ → Result (ℕ × List ℕ) DerError
length_at [] = Err Truncated
length_at (b ∷ bs) = if nat_lt b 128 then Ok (b, bs) else long_at (b - 128) bs

-- so many bytes of contents
unfoldable pub contents_at : ℕ → List ℕ → Result (List ℕ × List ℕ) DerError
contents_at n bytes = if nat_lt (length bytes) n then Err Truncated else Ok (take n bytes, drop n bytes)

-- a length and its contents
unfoldable pub rest_at : List ℕ → Result (List ℕ × List ℕ) DerError
rest_at bytes = length_at bytes >>= λ n. contents_at n.0 n.1

-- the contents of a value after its tag; a tag of several bytes is refused
unfoldable pub after_tag : ℕ → List ℕ → Result (List ℕ × List ℕ) DerError
after_tag tag bytes = if tag % 32 == 31 then Err BadValue else rest_at bytes

-- the contents of a value of this tag
unfoldable pub value_at : Tag → List ℕ → Result (List ℕ × List ℕ) DerError
value_at tag [] = Err Truncated
value_at tag (b ∷ bs) = if b == tag.0 then after_tag tag.0 bs else Err (WrongTag tag (record { 0 = b }))

-- the whole of the next value, whatever its tag
unfoldable pub raw_at : List ℕ → Result (List ℕ × List ℕ) DerError
raw_at [] = Err Truncated
raw_at (b ∷ bs) = after_tag b bs >>= λ v. Ok (take (length (b ∷ bs) - length v.1) (b ∷ bs), v.1)

-- a reader nested in another is allowed
unfoldable pub deeper : {A : Type 0} → ℕ → A → Result A DerError
deeper depth x = if nat_lt depth 256 then Ok x else Err TooDeep

-- A value of this height, read at this depth: its height is at most what the depth leaves of 256, else it is `TooDeep`. A reader
-- is at depth 256 at most, so it reads the value exactly where depth and height are at most 256 together.
unfoldable pub within : {A : Type 0} → ℕ → ℕ → A → Result A DerError
within depth height x = if nat_le height (256 - depth) then Ok x else Err TooDeep

-- the contents of a value of this tag, for a reader nested one deeper
unfoldable pub nested_at : Tag → ℕ → List ℕ → Result (List ℕ × List ℕ) DerError
nested_at tag depth bytes = value_at tag bytes >>= λ v. deeper depth v

-- what a BIT STRING of whole bytes holds: the contents after a count 00 of unused bits (X.690 section 8.6.2)
unfoldable pub whole_bytes : List ℕ → Result (List ℕ) DerError
whole_bytes [] = Err BadValue
whole_bytes (b ∷ bs) = if b == 0 then Ok bs else Err BadValue

-- the bytes of a BIT STRING of whole bytes, for a reader nested one deeper
unfoldable pub nested_bits_at : Tag → ℕ → List ℕ → Result (List ℕ × List ℕ) DerError
nested_bits_at tag depth bytes = value_at tag bytes >>= λ v. whole_bytes v.0 >>= λ c. deeper depth (c, v.1)

-- nothing is left
unfoldable pub end_at : List ℕ → Result (Unit {0}) DerError
end_at [] = Ok tt
end_at (b ∷ bs) = Err TrailingBytes

-- the next tag's byte
unfoldable pub tag_at : List ℕ → Result ℕ DerError
tag_at [] = Err Truncated
tag_at (b ∷ bs) = Ok b

-- ---- what calls answer

-- The fault is one of the bytes, and not want of memory.
abbrev pub IsOfBytes : DerError → Type 0
IsOfBytes OutOfMemory = ⊥
IsOfBytes _ = Unit {0}

-- A call that takes no memory answered just what reading gives; `view` says how its value is seen.
abbrev pub Answers : {X Y : Type 0} → (X → Y) → Result X DerError → Result Y DerError → Type 0
Answers view (Ok x) read = read ≡ Ok (view x)
Answers view (Err e) read = read ≡ Err e

-- The fault is the one that reading gives, or want of memory.
abbrev pub Fails : {X : Type 0} → DerError → Result X DerError → Type 0
Fails OutOfMemory read = Unit {0}
Fails Truncated read = read ≡ Err Truncated
Fails (WrongTag expected got) read = read ≡ Err (WrongTag expected got)
Fails BadLength read = read ≡ Err BadLength
Fails BadValue read = read ≡ Err BadValue
Fails TrailingBytes read = read ≡ Err TrailingBytes
Fails TooDeep read = read ≡ Err TooDeep

-- A call answered what reading gives, unless memory ran out.
abbrev pub Gives : {X Y : Type 0} → (X → Y) → Result X DerError → Result Y DerError → Type 0
Gives view (Ok x) read = read ≡ Ok (view x)
Gives view (Err e) read = Fails e read

-- A reader's call that takes no memory: it answered just what reading gives at its place and stands after the
-- value, no deeper; after a fault it stands where it stood.
abbrev pub Moves : {X Y : Type 0} → (X → Y) → (ℕ → List ℕ → Result (Y × List ℕ) DerError) → Place → Result X DerError → Place → Type 0
Moves view read old (Ok x) new = (read old.depth old.left ≡ Ok (view x, new.left)) × (new.depth ≡ old.depth)
Moves view read old (Err e) new = (read old.depth old.left ≡ Err e) × (new ≡ old)

-- The same, unless memory ran out.
abbrev pub Reads : {X Y : Type 0} → (X → Y) → (ℕ → List ℕ → Result (Y × List ℕ) DerError) → Place → Result X DerError → Place → Type 0
Reads view read old (Ok x) new = (read old.depth old.left ≡ Ok (view x, new.left)) × (new.depth ≡ old.depth)
Reads view read old (Err e) new = Fails e (read old.depth old.left) × (new ≡ old)
