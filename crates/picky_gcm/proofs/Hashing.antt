-- The blocks of padded bytes, and their hash one block after another.
use Rattle.std.proofs.Common.{◌≡◌, ℕ, ◌+◌, ◌-◌, ◌*◌, ◌/◌, ◌%◌, Bool, List, [], ◌∷◌, ◌++◌, length, map, replicate, slice_range, refl, sym, ap, ◌∙◌, arith}
use Rattle.std.specs.List.{range_with_len}
use Rattle.std.specs.Int.{div_ceil}
use Rattle.std.proofs.lemmas.List.{length-append, length-replicate}
use Rattle.std.proofs.lemmas.List.FromFn.{map-range_with_len_more}
use Rattle.picky_gcm.specs.Hash.{Ghash, Ghash_from, blocks, hash_of, lengths, padded}
use Rattle.picky_gcm.specs.Polynomial.{Mul, block_of, bytes_of, plus, zeros}

-- ---- the number of blocks
pub count-padded : (bytes : List ℕ) → length (padded bytes) / 16 ≡ div_ceil (length bytes) 16
count-padded bytes =
    let z : ℕ = (16 - length bytes % 16) % 16 in
    omega (arith, length-append bytes (replicate z 0), length-replicate {A = ℕ} z 0)

-- ---- the hash, block by block
abbrev pub block_at : List ℕ → ℕ → List Bool
block_at bytes k = block_of (slice_range (padded bytes) (16 * k) (16 * k + 16))

Ghash_from-append : (h y : List Bool) (xs ys : List (List Bool)) → Ghash_from h y (xs ++ ys) ≡ Ghash_from h (Ghash_from h y xs) ys
unfolding Ghash_from
Ghash_from-append h y [] ys = refl
Ghash_from-append h y (x ∷ xs) ys = Ghash_from-append h (Mul (plus y x) h) xs ys

Ghash_from-one : (h y x : List Bool) → Ghash_from h y (x ∷ []) ≡ Mul (plus y x) h
unfolding Ghash_from
Ghash_from-one h y x = refl

pub Ghash_from-none : (h y : List Bool) → y ≡ Ghash_from h y []
unfolding Ghash_from
Ghash_from-none h y = refl

pub Ghash-none : (h : List Bool) → Ghash h [] ≡ zeros 128
unfolding Ghash_from
Ghash-none h = refl

pub Ghash-more : (h : List Bool) (xs : List (List Bool)) (x : List Bool) → Ghash h (xs ++ x ∷ []) ≡ Mul (plus (Ghash h xs) x) h
Ghash-more h xs x = Ghash_from-append h (zeros 128) xs (x ∷ []) ∙ Ghash_from-one h (Ghash h xs) x

-- z is the hash so far, x the next block, s their sum, w the product of that and the key
pub hashed-more : (h y : List Bool) (bytes : List ℕ) (k : ℕ) (z x s w : List Bool) → z ≡ Ghash_from h y (map (block_at bytes) (range_with_len 0 k))
    → x ≡ block_at bytes k → s ≡ plus z x → w ≡ Mul s h → w ≡ Ghash_from h y (map (block_at bytes) (range_with_len 0 (k + 1)))
hashed-more h y bytes k z x s w ez ex es ew =
    ew
    ∙ ap (λ c. Mul c h) (es ∙ (λ i. plus (ez i) (ex i)))
    ∙ sym (Ghash_from-one h (Ghash_from h y (map (block_at bytes) (range_with_len 0 k))) (block_at bytes k))
    ∙ sym (Ghash_from-append h y (map (block_at bytes) (range_with_len 0 k)) (block_at bytes k ∷ []))
    ∙ ap (Ghash_from h y) (sym (map-range_with_len_more (block_at bytes) 0 k k (omega arith)))

pub hashed-all : (h y : List Bool) (bytes : List ℕ) (k : ℕ) (z : List Bool) → k ≡ div_ceil (length bytes) 16
    → z ≡ Ghash_from h y (map (block_at bytes) (range_with_len 0 k)) → z ≡ Ghash_from h y (blocks (padded bytes))
hashed-all h y bytes k z ek ez =
    ez ∙ ap (λ n. Ghash_from h y (map (block_at bytes) (range_with_len 0 n))) (ek ∙ sym (count-padded bytes))

-- the whole hash: a of the additional data, b on to the text, w on to the lengths, with s the sum of b and those
pub hash-is : (key aad text bytes : List ℕ) (z a b s w : List Bool) → z ≡ zeros 128
    → a ≡ Ghash_from (block_of key) z (blocks (padded aad)) → b ≡ Ghash_from (block_of key) a (blocks (padded text))
    → s ≡ plus b (block_of (lengths aad text)) → w ≡ Mul s (block_of key) → bytes ≡ bytes_of w → bytes ≡ hash_of key aad text
unfolding hash_of
hash-is key aad text bytes z a b s w ez ea eb es ew e =
    let h : List Bool = block_of key in
    let ends : List (List Bool) = block_of (lengths aad text) ∷ [] in
    let first : a ≡ Ghash h (blocks (padded aad)) = ea ∙ ap (λ z. Ghash_from h z (blocks (padded aad))) ez in
    let second : b ≡ Ghash_from h (Ghash h (blocks (padded aad))) (blocks (padded text)) = eb ∙ ap (λ a. Ghash_from h a (blocks (padded text))) first in
    let last : w ≡ Mul (plus (Ghash_from h (Ghash h (blocks (padded aad))) (blocks (padded text))) (block_of (lengths aad text))) h =
    ew ∙ ap (λ c. Mul c h) (es ∙ ap (λ b. plus b (block_of (lengths aad text))) second) in
    e ∙ ap bytes_of (last
    ∙ sym (Ghash_from-one h (Ghash_from h (Ghash h (blocks (padded aad))) (blocks (padded text))) (block_of (lengths aad text)))
    ∙ sym (Ghash_from-append h (Ghash h (blocks (padded aad))) (blocks (padded text)) ends)
    ∙ sym (Ghash_from-append h (zeros 128) (blocks (padded aad)) (blocks (padded text) ++ ends)))
