-- A byte whose low bits are cleared by a mask.
use Rattle.std.proofs.Common.{◌≡◌, ℕ, ◌+◌, ◌-◌, ◌*◌, ◌/◌, ◌%◌, ◌<◌, ◌≤◌, ◌^◌, sym, ap, ◌∙◌, arith, add-zero}
use Rattle.std.specs.Prelude.{bit_and}
use Rattle.std.specs.Int.{bit_at}
use Rattle.std.proofs.lemmas.Nat.{shr-shr, pow_pos}
use Rattle.std.proofs.lemmas.Nat.Bits.{ones_shl, and_high_mask, bit_at_cat_low, bit_at_cat_high, bit_at-zero}

-- the mask takes the byte to a multiple of 2 ^ count
masked : (byte count : ℕ) → byte < 256 → count ≤ 8 → bit_and byte (255 * 2 ^ count % 256) ≡ byte / 2 ^ count * 2 ^ count + 0
masked byte count small le =
    ap (λ (m : ℕ). bit_and byte m) (ones_shl 8 count le) ∙ and_high_mask 8 count le byte small ∙ sym (add-zero _)

pub low_bits_cleared : (byte count k : ℕ) → byte < 256 → count ≤ 8 → k < count → bit_at (bit_and byte (255 * 2 ^ count % 256)) k ≡ 0
low_bits_cleared byte count k small le low =
    ap (λ (b : ℕ). bit_at b k) (masked byte count small le) ∙ bit_at_cat_low (byte / 2 ^ count) count 0 k low ∙ bit_at-zero k

pub high_bits_kept : (byte count k : ℕ) → byte < 256 → count ≤ 8 → count ≤ k → bit_at (bit_and byte (255 * 2 ^ count % 256)) k ≡ bit_at byte k
high_bits_kept byte count k small le high =
    ap (λ (b : ℕ). bit_at b k) (masked byte count small le)
    ∙ bit_at_cat_high (byte / 2 ^ count) count 0 k (pow_pos count) high
    ∙ ap (λ (b : ℕ). b % 2) (shr-shr byte count (k - count))
    ∙ ap (λ (e : ℕ). byte / 2 ^ e % 2) (omega arith)
