-- Cutting or filling a bit string: its bytes are cut or filled with 0, and the byte in which the kept bits end is cleared behind them.
use Rattle.std.proofs.Common.{◌≡◌, ◌≢◌, ℕ, ◌+◌, ◌-◌, ◌/◌, ◌%◌, ◌<◌, ◌≤◌, min, List, ◌++◌, length, get_or, set, take, replicate, sym, ap, ◌∙◌, arith, inl, inr, subst}
use Rattle.std.specs.Int.{bit_at}
use Rattle.std.proofs.lemmas.List.{get_or-set_same, get_or-set_other, length-set, get_or_past}
use Rattle.std.proofs.lemmas.Bool.{cases_eq, cases_lt}
use Rattle.std.proofs.lemmas.Nat.Bits.{bit_at-zero}
use Rattle.std.proofs.lemmas.Grind.{common_steps, get_or_default_zero}
use Rattle.picky_asn1_bits.specs.Bits.{bit_count, unused, bit, Resizes}

-- the bytes, cut or filled with 0 to a length
abbrev resized : List ℕ → ℕ → List ℕ
resized old m = take m old ++ replicate (m - length old) 0

length-resized : (old : List ℕ) (m : ℕ) → length (resized old m) ≡ m
length-resized old m = grind (arith, common_steps)

-- what stands below the length is the old byte, or 0 where there was none
resized_below : (old : List ℕ) (m j : ℕ) → j < m → get_or (resized old m) j 0 ≡ get_or old j 0
resized_below old m j below = grind (arith, common_steps)

-- past the length there is nothing
resized_past : (old : List ℕ) (m j : ℕ) → m ≤ j → get_or (resized old m) j 0 ≡ 0
resized_past old m j past = get_or_past (resized old m) j 0 (omega (arith, length-resized old m))

-- the byte that holds bit i, of the written bytes
module _ (old : List ℕ) (n kept count last : ℕ) where
  abbrev size : ℕ
  size = n / 8 + min 1 (n % 8) + 1

  abbrev counted : List ℕ
  counted = set (resized old size) 0 count

  abbrev new : List ℕ
  new = set counted (1 + kept / 8) last

  byte_same : (j : ℕ) → j ≢ kept / 8 → get_or new (1 + j) 0 ≡ get_or (resized old size) (1 + j) 0
  byte_same j apart =
      get_or-set_other counted (1 + kept / 8) (1 + j) last 0 (λ (h : 1 + j ≡ 1 + kept / 8). apart (omega arith))
      ∙ get_or-set_other (resized old size) 0 (1 + j) count 0 (λ (h : 1 + j ≡ 0). absurd (omega arith))

  byte_last : 1 + kept / 8 < size → get_or new (1 + kept / 8) 0 ≡ last
  byte_last within = get_or-set_same counted (1 + kept / 8) last 0 (rw (length-set (resized old size) 0 count, length-resized old size) within)

  length-new : length new ≡ size
  length-new = length-set counted (1 + kept / 8) last ∙ length-set (resized old size) 0 count ∙ length-resized old size

  unused-new : 0 < size → unused new ≡ count
  unused-new some =
      get_or-set_other counted (1 + kept / 8) 0 last 0 (λ (h : 0 ≡ 1 + kept / 8). absurd (omega arith))
      ∙ get_or-set_same (resized old size) 0 count 0 (rw (length-resized old size) some)

  module _ (some : 0 < length old) (few : unused old < 8) (none : length old ≡ 1 → unused old ≡ 0) (least : kept ≡ min (bit_count old) n) (inner : kept % 8 ≢ 0) (below : count < 8) (whole : (n + count) % 8 ≡ 0) (cleared : (k : ℕ) → k < 8 - kept % 8 → bit_at last k ≡ 0) (same : (k : ℕ) → 8 - kept % 8 ≤ k → bit_at last k ≡ bit_at (get_or counted (1 + kept / 8) 0) k) where
    last_within : 1 + kept / 8 < size
    last_within = omega arith

    counted_last : get_or counted (1 + kept / 8) 0 ≡ get_or old (1 + kept / 8) 0
    counted_last =
        get_or-set_other (resized old size) 0 (1 + kept / 8) count 0 (λ (h : 1 + kept / 8 ≡ 0). absurd (omega arith))
        ∙ resized_below old size (1 + kept / 8) last_within

    bits_kept : (i : ℕ) → i < bit_count old → i < n → bit new i ≡ bit old i
    bits_kept i inside within = elim (cases_eq (i / 8) (kept / 8)) [
      | inl here ↦
          ap (λ (j : ℕ). bit_at (get_or new (1 + j) 0) (7 - i % 8)) here
          ∙ ap (λ (b : ℕ). bit_at b (7 - i % 8)) (byte_last last_within)
          ∙ same (7 - i % 8) (omega arith)
          ∙ ap (λ (b : ℕ). bit_at b (7 - i % 8)) counted_last
          ∙ ap (λ (j : ℕ). bit_at (get_or old (1 + j) 0) (7 - i % 8)) (sym here)
      | inr apart ↦ ap (λ (b : ℕ). bit_at b (7 - i % 8)) (byte_same (i / 8) apart ∙ resized_below old size (1 + i / 8) (omega arith))
    ]

    byte_cleared : (i : ℕ) → kept ≤ i → i / 8 ≢ kept / 8 → get_or (resized old size) (1 + i / 8) 0 ≡ 0
    byte_cleared i past apart = elim (cases_lt (1 + i / 8) size) [
      | inl within ↦ resized_below old size (1 + i / 8) within ∙ get_or_past old (1 + i / 8) 0 (omega arith)
      | inr beyond ↦ resized_past old size (1 + i / 8) beyond
    ]

    bits_cleared : (i : ℕ) → kept ≤ i → bit new i ≡ 0
    bits_cleared i past = elim (cases_eq (i / 8) (kept / 8)) [
      | inl here ↦
          ap (λ (j : ℕ). bit_at (get_or new (1 + j) 0) (7 - i % 8)) here
          ∙ ap (λ (b : ℕ). bit_at b (7 - i % 8)) (byte_last last_within)
          ∙ cleared (7 - i % 8) (omega arith)
      | inr apart ↦ ap (λ (b : ℕ). bit_at b (7 - i % 8)) (byte_same (i / 8) apart ∙ byte_cleared i past apart) ∙ bit_at-zero (7 - i % 8)
    ]

    pub Resizes-cleared : Resizes old new n
    Resizes-cleared = record {
      counted = let l = length-new in let u = unused-new (omega arith) in omega arith;
      kept = bits_kept;
      cleared = λ i outside. bits_cleared i (elim outside [ inl h ↦ omega arith | inr h ↦ omega arith ]);
    }

-- the same, of the names that the code has
pub Resizes-written : (old r : List ℕ) (n len q kept count read last : ℕ) → 0 < length old → unused old < 8 → (length old ≡ 1 → unused old ≡ 0) → kept ≡ min (bit_count old) n → kept % 8 ≢ 0 → count < 8 → (n + count) % 8 ≡ 0 → q ≡ n / 8 + min 1 (n % 8) → len ≡ length old → r ≡ take (q + 1) old ++ replicate (q + 1 - len) 0 → read ≡ get_or (set r 0 count) (1 + kept / 8) read → ((k : ℕ) → k < 8 - kept % 8 → bit_at last k ≡ 0) → ((k : ℕ) → 8 - kept % 8 ≤ k → bit_at last k ≡ bit_at read k) → Resizes old (set (set r 0 count) (1 + kept / 8) last) n
Resizes-written old r n len q kept count read last some few none least inner below whole q_is len_is r_is read_is cleared same =
    let bytes : r ≡ resized old (size old n kept count last) = r_is ∙ ap (λ (l : ℕ). take (q + 1) old ++ replicate (q + 1 - l) 0) len_is ∙ ap (λ (m : ℕ). resized old (m + 1)) q_is in
    let long : 1 + kept / 8 < length (set r 0 count) = rw (length-set r 0 count, bytes, length-resized old (size old n kept count last)) (omega arith) in
    let there : read ≡ get_or (set (resized old (size old n kept count last)) 0 count) (1 + kept / 8) 0 =
    read_is ∙ get_or_default_zero (set r 0 count) (1 + kept / 8) read long ∙ ap (λ (l : List ℕ). get_or (set l 0 count) (1 + kept / 8) 0) bytes in
    let P : List ℕ → Type 0 = λ l. Resizes old (set (set l 0 count) (1 + kept / 8) last) n in
    subst P (sym bytes) (Resizes-cleared old n kept count last some few none least inner below whole cleared (λ k high. same k high ∙ ap (λ (b : ℕ). bit_at b k) there))
