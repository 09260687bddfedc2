-- What a `&mut` into a bit string leaves behind (own).
use Rattle.std.specs.Prelude.{ℕ, ◌+◌, List, slice_set}
use Rattle.std.specs.Borrow.{Lends, MutBor, Fml, Array, u8}
use Rattle.picky_asn1_bits.specs.Bits.{with_payload}
use Rattle.picky_asn1_bits.specs.contracts.bit_string.BitString.{the_row}

-- the bit string ends with byte i of its payload as it is then behind the result
abbrev pub LendsBucket : MutBor (List ℕ) → ℕ → MutBor ℕ → Fml
LendsBucket bits i r = Lends the_row u8 bits r (λ w. slice_set bits.now (1 + i) w)

-- the bit string ends with its count, and with the payload that is then behind the result
abbrev pub LendsPayload : MutBor (List ℕ) → MutBor (List ℕ) → Fml
LendsPayload bits r = Lends the_row (Array u8 0) bits r (with_payload bits.now)
