-- The wrapped key and the key that it holds, from the registers.
use Rattle.std.proofs.Common.{◌≡◌, ℕ, ◌+◌, ◌-◌, ◌*◌, ◌/◌, ◌%◌, ◌≤◌, List, ◌++◌, length, take, drop, sym, ap, ◌∙◌, arith, inl, inr}
use Rattle.std.proofs.lemmas.Bool.{cases_lt}
use Rattle.std.proofs.lemmas.List.{length-append, length-drop, take-append-drop, take_all, take_at}
use Rattle.picky_modes.specs.Blocks.{IsBlock, IsBytes}
use Rattle.picky_modes.specs.KeyWrap.{initial_value, wrap_steps, wrapped_key}
use Rattle.picky_modes.proofs.BlockLemmas.{IsBytes-append}
use Rattle.picky_modes.proofs.Decryption.{IsBytes-replicate}
use Rattle.picky_modes.proofs.Registers.{KeepsBlocks}
use Rattle.picky_modes.proofs.Steps.{IsBlock-steps, steps-none}

-- a list over which another of its length was written
pub written-over : (n : ℕ) (new old : List ℕ) → n ≡ length old → length new ≡ length old → take n (new ++ drop (length new) old) ≡ new
written-over n new old hn hl = take_at new (drop (length new) old) n (hl ∙ sym hn)

pub wrapped-is : (e : List ℕ → List ℕ) (plain before after : List ℕ) → before ≡ initial_value ++ plain
    → after ≡ wrap_steps e (length plain / 8) before (6 * (length plain / 8)) → after ≡ wrapped_key e plain
unfolding wrapped_key
wrapped-is e plain before after hb ha = ha ∙ ap (λ s. wrap_steps e (length plain / 8) s (6 * (length plain / 8))) hb

-- what is known of a wrapped key that is unwrapped: its size, and the registers before the first step
pub record IsOpened (e : List ℕ → List ℕ) (sealed before : List ℕ) : Type 0 where
  pub whole : length sealed % 8 ≡ 0
  pub low : 24 ≤ length sealed
  pub size : length before ≡ length sealed
  pub back : wrap_steps e (length sealed / 8 - 1) before (6 * (length sealed / 8 - 1)) ≡ sealed
  pub alone : (s : List ℕ) → IsBlock (length sealed) s → wrap_steps e (length sealed / 8 - 1) s (6 * (length sealed / 8 - 1)) ≡ sealed → s ≡ before

pub opened-at : (e : List ℕ → List ℕ) (sealed now before : List ℕ) → now ≡ sealed → length sealed % 8 ≡ 0 → 24 ≤ length sealed → length before ≡ length now
    → wrap_steps e (length sealed / 8 - 1) before (6 * (length sealed / 8 - 1)) ≡ now
    → ((s : List ℕ) → IsBlock (length now) s → wrap_steps e (length sealed / 8 - 1) s (6 * (length sealed / 8 - 1)) ≡ now → s ≡ before) → IsOpened e sealed before
opened-at e sealed now before same whole low size back alone = record {
  whole = whole;
  low = low;
  size = size ∙ ap length same;
  back = back ∙ same;
  alone = λ s block h. alone s (record { size = block.size ∙ sym (ap length same); bytes = block.bytes }) (h ∙ sym same);
}

-- where A is the initial value, the rest is the key
pub key-found : (e : List ℕ → List ℕ) (sealed before plain : List ℕ) → IsOpened e sealed before → take 8 before ≡ initial_value → plain ≡ drop 8 before → wrapped_key e plain ≡ sealed
unfolding wrapped_key
key-found e sealed before plain h check rest =
    let n : ℕ = length sealed / 8 - 1 in
    let size : length plain ≡ length sealed - 8 = ap length rest ∙ length-drop 8 before ∙ ap (λ m. m - 8) h.size in
    let count : length plain / 8 ≡ n = ap (λ m. m / 8) size ∙ omega (arith, h.whole, h.low) in
    let joined : initial_value ++ plain ≡ before = (λ i. sym check i ++ rest i) ∙ take-append-drop 8 before in
    (λ i. wrap_steps e (count i) (joined i) (6 * count i)) ∙ h.back

IsBlock-initial : (plain : List ℕ) → IsBytes plain → IsBlock (8 + length plain) (initial_value ++ plain)
IsBlock-initial plain bytes = record {
  size = length-append initial_value plain;
  bytes = IsBytes-append initial_value plain (IsBytes-replicate 8 0xA6 (omega arith)) bytes;
}

-- a wrapped key is eight bytes longer than the key
wrapped-size : (e : List ℕ → List ℕ) (sealed plain : List ℕ) → KeepsBlocks e → 24 ≤ length sealed → IsBytes plain → wrapped_key e plain ≡ sealed → 8 + length plain ≡ length sealed
unfolding wrapped_key
wrapped-size e sealed plain keeps low bytes h =
    let n : ℕ = length plain / 8 in
    let start = IsBlock-initial plain bytes in
    elim (cases_lt 0 n) [
      | inl some ↦
          let fits : 8 * n + 8 ≤ 8 + length plain = omega arith in
          let kept = IsBlock-steps e n (8 + length plain) (initial_value ++ plain) (6 * n) keeps some fits start in
          sym kept.size ∙ ap length h
      | inr none ↦
          let no_steps : 6 * n ≡ 0 = omega arith in
          let same : initial_value ++ plain ≡ sealed = sym (ap (wrap_steps e n (initial_value ++ plain)) no_steps ∙ steps-none e n (initial_value ++ plain)) ∙ h in
          sym start.size ∙ ap length same
    ]

-- the registers of a key that is wrapped so are those that were found
pub key-only : (e : List ℕ → List ℕ) (sealed before plain : List ℕ) → KeepsBlocks e → IsOpened e sealed before → IsBytes plain → wrapped_key e plain ≡ sealed → initial_value ++ plain ≡ before
unfolding wrapped_key
key-only e sealed before plain keeps h bytes made =
    let size : 8 + length plain ≡ length sealed = wrapped-size e sealed plain keeps h.low bytes made in
    let start = IsBlock-initial plain bytes in
    let count : length plain / 8 ≡ length sealed / 8 - 1 = omega (arith, h.whole) in
    let steps : wrap_steps e (length sealed / 8 - 1) (initial_value ++ plain) (6 * (length sealed / 8 - 1)) ≡ sealed =
    (λ i. wrap_steps e (sym count i) (initial_value ++ plain) (6 * sym count i)) ∙ made in
    h.alone (initial_value ++ plain) (record { size = start.size ∙ size; bytes = start.bytes }) steps

-- ---- the check
-- the key's bytes, as they are read
pub key-read : (plain read before : List ℕ) → read ≡ before → plain ≡ take (length read - 8) (drop 8 read) → plain ≡ drop 8 before
key-read plain read before er h = h ∙ take_all (length read - 8) (drop 8 read) (omega (arith, length-drop 8 read)) ∙ ap (drop 8) er

-- the key is the one that is wrapped so
pub key-same : (plain before found : List ℕ) → found ≡ drop 8 before → initial_value ++ plain ≡ before → found ≡ plain
key-same plain before found h joined = h ∙ sym (ap (drop 8) joined)
