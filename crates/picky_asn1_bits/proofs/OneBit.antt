-- One bit of a bit string is written, and every other bit stays.
use Rattle.std.proofs.Common.{◌≡◌, ◌≢◌, ℕ, ◌+◌, ◌-◌, ◌*◌, ◌/◌, ◌%◌, ◌<◌, ◌^◌, List, length, get_or, sym, ap, ◌∙◌, arith, inl, inr, w8}
use Rattle.std.specs.Prelude.{slice_index, slice_set, bit_and, bit_or}
use Rattle.std.specs.Int.{bit_at}
use Rattle.std.proofs.lemmas.List.{get_or-set_same, get_or-set_other, length-set}
use Rattle.std.proofs.lemmas.Grind.{get_or_default_zero}
use Rattle.std.proofs.lemmas.Bool.{cases_eq}
use Rattle.std.proofs.lemmas.Nat.Bits.{bit_at_set_same, bit_at_set_other, bit_at_clear_same, bit_at_clear_other}
use Rattle.picky_asn1_bits.specs.Bits.{bit_count, SetsBit}

-- a bit within the length lies in a byte that is there
byte_is_there : (old : List ℕ) (i : ℕ) → i < bit_count old → 1 + i / 8 < length old
byte_is_there old i inside = omega arith

-- writing a byte that differs from the old one in bit i alone
pub SetsBit-set : (old : List ℕ) (i byte value : ℕ) → i < bit_count old → bit_at byte (7 - i % 8) ≡ value → ((k : ℕ) → k < 8 → k ≢ 7 - i % 8 → bit_at byte k ≡ bit_at (slice_index old (1 + i / 8)) k) → SetsBit old (slice_set old (1 + i / 8) byte) i value
SetsBit-set old i byte value inside here others = record {
  same_length = simp length-set;
  same_count = get_or-set_other old (1 + i / 8) 0 byte 0 (λ (same : 0 ≡ 1 + i / 8). absurd (omega arith));
  here = ap (λ (b : ℕ). bit_at b (7 - i % 8)) (get_or-set_same old (1 + i / 8) byte 0 (byte_is_there old i inside)) ∙ here;
  others = λ j other. elim (cases_eq (j / 8) (i / 8)) [
    | inl same ↦
        ap (λ (k : ℕ). bit_at (slice_index (slice_set old (1 + i / 8) byte) (1 + k)) (7 - j % 8)) same
        ∙ ap (λ (b : ℕ). bit_at b (7 - j % 8)) (get_or-set_same old (1 + i / 8) byte 0 (byte_is_there old i inside))
        ∙ others (7 - j % 8) (omega arith) (λ (h : 7 - j % 8 ≡ 7 - i % 8). other (omega arith))
        ∙ ap (λ (k : ℕ). bit_at (slice_index old (1 + k)) (7 - j % 8)) (sym same)
    | inr apart ↦ ap (λ (b : ℕ). bit_at b (7 - j % 8)) (get_or-set_other old (1 + i / 8) (1 + j / 8) byte 0 (λ (h : 1 + j / 8 ≡ 1 + i / 8). apart (omega arith)))
  ];
}

-- `*byte |= 1 << (7 - i % 8)`
pub SetsBit-or : (old : List ℕ) (i byte : ℕ) → byte ≡ get_or old (1 + i / 8) byte → i < bit_count old → SetsBit old (slice_set old (1 + i / 8) (bit_or byte (1 * 2 ^ (7 - i % 8) % 256))) i 1
SetsBit-or old i byte read inside =
    SetsBit-set old i _ 1 inside (bit_at_set_same w8 byte (7 - i % 8) (omega arith))
    (λ k below other. bit_at_set_other w8 byte (7 - i % 8) (omega arith) k other ∙ ap (λ (b : ℕ). bit_at b k) (read ∙ get_or_default_zero old (1 + i / 8) byte (byte_is_there old i inside)))

-- `*byte &= !(1 << (7 - i % 8))`
pub SetsBit-and : (old : List ℕ) (i byte : ℕ) → byte ≡ get_or old (1 + i / 8) byte → i < bit_count old → SetsBit old (slice_set old (1 + i / 8) (bit_and byte (255 - 1 * 2 ^ (7 - i % 8) % 256))) i 0
SetsBit-and old i byte read inside =
    SetsBit-set old i _ 0 inside (bit_at_clear_same w8 byte (7 - i % 8) (omega arith))
    (λ k below other. bit_at_clear_other w8 byte (7 - i % 8) (omega arith) k below other ∙ ap (λ (b : ℕ). bit_at b k) (read ∙ get_or_default_zero old (1 + i / 8) byte (byte_is_there old i inside)))
