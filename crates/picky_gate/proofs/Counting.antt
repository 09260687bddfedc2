-- How many texts are admissible is one number, and one text more.
use Rattle.std.proofs.Common.{◌≡◌, inl, inr, ℕ, zero, suc, ◌+◌, ◌%◌, ◌^◌, ◌<◌, ◌≤◌, sym, ap, subst, ◌∙◌, arith, add-one}
use Rattle.rand_chacha.specs.ChaCha.{ChaCha, key_of, next_word}
use Rattle.picky_generate.specs.Words.{seed_bytes, word}
use Rattle.picky_gate.specs.Generated.{IsGood, IsCounted, Counts}

counted : (P : Type 0) (m k a b : ℕ) → k ≡ m → IsCounted P m a → IsCounted P k b → b ≡ a
counted P m k a b same (inl h) (inl j) = j.1 ∙ ap suc same ∙ sym h.1
counted P m k a b same (inl h) (inr j) = absurd (j.0 h.0)
counted P m k a b same (inr h) (inl j) = absurd (h.0 j.0)
counted P m k a b same (inr h) (inr j) = j.1 ∙ same ∙ sym h.1

pub counts_once : (seed n a b : ℕ) → Counts seed n a → Counts seed n b → b ≡ a
counts_once seed zero a b h k = k ∙ sym h
counts_once seed (suc n) a b h k = counted (IsGood (word seed n) n) h.0 k.0 a b (counts_once seed n h.0 k.0 h.1 k.1) h.2 k.2

-- the generator before word i of a seed
abbrev pub before : ℕ → ℕ → ChaCha
before seed i = record { key = key_of (seed_bytes seed); stream = 0; word_pos = i }

-- one word more
pub stepped : (seed i w : ℕ) (old new : ChaCha) → old ≡ before seed i → (w, new) ≡ next_word 10 old → i < 2 ^ 64 → (w ≡ word seed i) × (new ≡ before seed (i + 1))
stepped seed i w old new is step small =
    let one : (w, new) ≡ next_word 10 (before seed i) = step ∙ ap (λ (g : ChaCha). next_word 10 g) is in
    let low : (i + 1) % 2 ^ 68 ≡ i + 1 = omega (arith, small) in
    (ap (λ (p : ℕ × ChaCha). p.0) one, ap (λ (p : ℕ × ChaCha). p.1) one ∙ ap (λ (n : ℕ). before seed n) low)

-- one text more
pub counts_more : (seed i w good more : ℕ) → Counts seed i good → w ≡ word seed i → IsCounted (IsGood w i) good more → Counts seed (i + 1) more
counts_more seed i w good more counts is next =
    subst (λ (n : ℕ). Counts seed n more) (sym (add-one i)) (good, counts, subst (λ (v : ℕ). IsCounted (IsGood v i) good more) is next)

pub few_more : (P : Type 0) (i good more : ℕ) → IsCounted P good more → good ≤ i → more ≤ i + 1
few_more P i good more (inl h) few = omega (arith, h.1, few)
few_more P i good more (inr h) few = omega (arith, h.1, few)
