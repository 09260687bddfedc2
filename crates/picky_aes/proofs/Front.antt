-- The cipher reads its key schedule at the front of the array alone.
use Rattle.std.proofs.Common.{◌≡◌, ℕ, zero, suc, ◌+◌, ◌-◌, ◌*◌, ◌/◌, ◌<◌, ◌≤◌, List, [], ◌++◌, length, take, drop, slice_index, refl, sym, ap, ◌∙◌, arith, append_assoc, inl, inr}
use Rattle.std.proofs.lemmas.List.{append-nil, drop-take, length-take-le, take-take, take_at}
use Rattle.picky_contract.specs.Sums.{add_bytes}
use Rattle.picky_aes.specs.Cipher.{IsBlock, IsKeySize, cipher, cipher_under, key_step, mix_columns, round_key, rounds, schedule, shift_rows, sub_bytes, word_at}
use Rattle.picky_aes.specs.Expanded.{IsExpanded, IsWordCount}
use Rattle.picky_aes.proofs.Schedule.{key_size-range}
use Rattle.picky_aes.proofs.Inverse.{HasKeys, IsBlock-cipher, cipher-alone}

round_key-front : (w : List ℕ) (m r : ℕ) → 16 * r + 16 ≤ m → round_key (take m w) r ≡ round_key w r
round_key-front w m r h =
    let split : m ≡ 16 * r + (m - 16 * r) = omega arith in
    ap (λ k. take (16 * r + 16 - 16 * r) (drop (16 * r) (take k w))) split
    ∙ ap (take (16 * r + 16 - 16 * r)) (drop-take (16 * r) (m - 16 * r) w)
    ∙ take-take (16 * r + 16 - 16 * r) (m - 16 * r) (drop (16 * r) w) (omega arith)

rounds-front : (w s : List ℕ) (m r : ℕ) → 16 * r + 16 ≤ m → rounds (take m w) s r ≡ rounds w s r
unfolding rounds
rounds-front w s m zero h = ap (add_bytes s) (round_key-front w m 0 h)
rounds-front w s m (suc r) h =
    (λ i. add_bytes (mix_columns (shift_rows (sub_bytes (rounds-front w s m r (omega arith) i)))) (round_key-front w m (suc r) h i))

cipher-front : (w s : List ℕ) (m n : ℕ) → 16 * n + 32 ≤ m → cipher_under (take m w) n s ≡ cipher_under w n s
unfolding cipher_under
cipher-front w s m n h =
    (λ i. add_bytes (shift_rows (sub_bytes (rounds-front w s m n (omega arith) i))) (round_key-front w m (n + 1) (omega arith) i))

-- a key schedule begins with the key
schedule-begins : (n : ℕ) (key : List ℕ) (m : ℕ) → (rest : List ℕ) × (schedule n key m ≡ key ++ rest)
unfolding schedule
schedule-begins n key zero = ([], sym (append-nil key))
schedule-begins n key (suc m) =
    let before = schedule-begins n key m in
    let word : List ℕ = add_bytes (word_at (schedule n key m) m) (key_step n (n + m) (word_at (schedule n key m) (n + m - 1))) in
    (before.0 ++ word, ap (λ l. l ++ word) before.1 ∙ append_assoc key before.0 word)

pub key-front : (n : ℕ) (key w : List ℕ) → length key ≡ 4 * n → take (16 * n + 112) w ≡ schedule n key (3 * n + 28) → take (4 * n) w ≡ key
key-front n key w h e =
    let all = schedule-begins n key (3 * n + 28) in
    sym (take-take (4 * n) (16 * n + 112) w (omega arith))
    ∙ ap (take (4 * n)) (e ∙ all.1)
    ∙ take_at key all.0 (4 * n) h

pub expanded : (n : ℕ) (key w : List ℕ) → IsWordCount n → length key ≡ 4 * n → take (16 * n + 112) w ≡ schedule n key (3 * n + 28)
    → ((i : ℕ) → slice_index w i < 256) → IsExpanded n w
expanded n key w hn h e bytes = record {
  count = hn;
  front = e ∙ ap (λ k. schedule n k (3 * n + 28)) (sym (key-front n key w h e));
  bytes = bytes;
}

pub length-key : (n : ℕ) (w key : List ℕ) → IsExpanded n w → length w ≡ 240 → take (4 * n) w ≡ key → length key ≡ 4 * n
length-key n w key h long e =
    let range = key_size-range n h.count in
    ap length (sym e) ∙ length-take-le (4 * n) w (omega (arith, range.1))

-- the standard's cipher is that of the array
pub cipher-is : (n : ℕ) (w key s : List ℕ) → IsExpanded n w → length w ≡ 240 → take (4 * n) w ≡ key → cipher_under w (n + 5) s ≡ cipher key s
unfolding cipher
cipher-is n w key s h long e =
    let size = length-key n w key h long e in
    let words : length key / 4 ≡ n = omega (arith, size) in
    let front : take (16 * n + 112) w ≡ schedule n key (3 * n + 28) = h.front ∙ ap (λ k. schedule n k (3 * n + 28)) e in
    sym (cipher-front w s (16 * n + 112) (n + 5) (omega arith))
    ∙ ap (λ l. cipher_under l (n + 5) s) front
    ∙ (λ i. cipher_under (schedule (sym words i) key (3 * sym words i + 28)) (sym words i + 5) s)

pub word_count : (k : ℕ) → IsKeySize k → IsWordCount (k / 4) × (k ≡ 4 * (k / 4))
word_count k (inl e) = rw e (inl refl, refl)
word_count k (inr (inl e)) = rw e (inr (inl refl), refl)
word_count k (inr (inr e)) = rw e (inr (inr refl), refl)

pub key_size : (n k : ℕ) → IsWordCount n → k ≡ 4 * n → IsKeySize k
key_size n k (inl e) h = inl (h ∙ ap (λ m. 4 * m) e)
key_size n k (inr (inl e)) h = inr (inl (h ∙ ap (λ m. 4 * m) e))
key_size n k (inr (inr e)) h = inr (inr (h ∙ ap (λ m. 4 * m) e))

has-keys : (n : ℕ) (w : List ℕ) → IsExpanded n w → length w ≡ 240 → HasKeys w (n + 5)
has-keys n w h long =
    let range = key_size-range n h.count in
    record { size = omega (arith, range.1); bytes = h.bytes }

pub block-to-block : (n : ℕ) (w key : List ℕ) → IsExpanded n w → length w ≡ 240 → take (4 * n) w ≡ key
    → (s : List ℕ) → IsBlock s → IsBlock (cipher key s)
block-to-block n w key h long e s b =
    rw (← cipher-is n w key s h long e) (IsBlock-cipher w s (n + 5) (has-keys n w h long) b)

pub one-to-one : (n : ℕ) (w key : List ℕ) → IsExpanded n w → length w ≡ 240 → take (4 * n) w ≡ key
    → (s t : List ℕ) → IsBlock s → IsBlock t → cipher key s ≡ cipher key t → s ≡ t
one-to-one n w key h long e s t hs ht p =
    cipher-alone w s t (n + 5) (has-keys n w h long) hs ht
    (cipher-is n w key s h long e ∙ p ∙ sym (cipher-is n w key t h long e))
