-- A key that is added to a block twice is gone.
use Rattle.std.proofs.Common.{◌≡◌, ℕ, ◌%◌, ◌<◌, List, length, slice_index, sym, ap, ◌∙◌, arith, bit_xor}
use Rattle.std.specs.Int.Bits.{xor_self, xor_zero_r}
use lib.Bits.{xor_assoc}
use Rattle.std.proofs.lemmas.List.FromFn.{fill_by_all, get_or-map-range_with_len}
use Rattle.cipher_rows.specs.Added.{added}

xor_twice : (x y : ℕ) → bit_xor (bit_xor x y) y ≡ x
xor_twice x y = xor_assoc x y y ∙ ap (bit_xor x) (xor_self y) ∙ xor_zero_r x

-- the byte of a block with the key's added
abbrev sum_at : List ℕ → List ℕ → ℕ → ℕ
sum_at key block i = bit_xor (slice_index block i) (slice_index key (i % length key))

pub added-all : (key block sum : List ℕ) → length sum ≡ 8
    → ((k : ℕ) → k < 8 → slice_index sum k ≡ bit_xor (slice_index block k) (slice_index key (k % length key))) → sum ≡ added key block
unfolding added
added-all key block sum size each = fill_by_all (sum_at key block) sum 8 0 size each

added-at : (key block : List ℕ) (k : ℕ) → k < 8 → slice_index (added key block) k ≡ sum_at key block k
unfolding added
added-at key block k h = get_or-map-range_with_len (sum_at key block) 0 8 k k 0 h (omega arith)

pub added_twice : (key block : List ℕ) → length block ≡ 8 → added key (added key block) ≡ block
added_twice key block size =
    sym (added-all key (added key block) block size
    (λ k h. sym (ap (λ x. bit_xor x (slice_index key (k % length key))) (added-at key block k h) ∙ xor_twice (slice_index block k) (slice_index key (k % length key)))))
