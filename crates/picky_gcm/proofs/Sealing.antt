-- Tags, and what a ciphertext and a tag open to.
use Rattle.std.proofs.Common.{◌≡◌, ℕ, zero, suc, ◌+◌, ◌<◌, List, [], ◌∷◌, ◌++◌, length, take, drop, get_or, set, refl, sym, ap, ◌∙◌, arith, bit_xor, add-one, replicate}
use Rattle.picky_contract.specs.Sums.{add_bytes}
use Rattle.picky_aes.specs.Cipher.{cipher}
use Rattle.picky_gcm.specs.Counter.{counted, counter_block}
use Rattle.picky_gcm.specs.Hash.{hash_of}
use Rattle.picky_gcm.specs.Gcm.{Seal, Sealed, tag_of}
use Rattle.picky_gcm.proofs.Stream.{counted_twice}

-- ---- blocks added, byte by byte
add_bytes-step : (xs ys : List ℕ) (i : ℕ) → i < length xs → i < length ys
    → set (add_bytes (take i xs) (take i ys) ++ drop i xs) i (bit_xor (get_or (add_bytes (take i xs) (take i ys) ++ drop i xs) i 0) (get_or ys i 0))
    ≡ add_bytes (take (suc i) xs) (take (suc i) ys) ++ drop (suc i) xs
add_bytes-step [] ys i h k = absurd (omega arith)
add_bytes-step (x ∷ xs) [] i h k = absurd (omega arith)
add_bytes-step (x ∷ xs) (y ∷ ys) zero h k = refl
add_bytes-step (x ∷ xs) (y ∷ ys) (suc i) h k = ap (λ l. bit_xor x y ∷ l) (add_bytes-step xs ys i (omega arith) (omega arith))

pub add_bytes-more : (xs ys zs : List ℕ) (i : ℕ) → i < length xs → i < length ys → zs ≡ add_bytes (take i xs) (take i ys) ++ drop i xs
    → set zs i (bit_xor (get_or zs i 0) (get_or ys i 0)) ≡ add_bytes (take (i + 1) xs) (take (i + 1) ys) ++ drop (i + 1) xs
add_bytes-more xs ys zs i h k e = rw (e, add-one) (add_bytes-step xs ys i h k)

-- ---- seals
pub seal-text : (key nonce aad text : List ℕ) (s : Sealed) → Seal key nonce aad text ≡ s → counted key nonce text ≡ s.text
unfolding Seal
seal-text key nonce aad text s e = ap (λ (s : Sealed). s.text) e

pub seal-tag : (key nonce aad text : List ℕ) (s : Sealed) → Seal key nonce aad text ≡ s → tag_of key nonce aad s.text ≡ s.tag
unfolding Seal
seal-tag key nonce aad text s e = ap (tag_of key nonce aad) (sym (ap (λ (s : Sealed). s.text) e)) ∙ ap (λ (s : Sealed). s.tag) e

-- a text is what its seal is counted to
pub seal-back : (key nonce aad text : List ℕ) (s : Sealed) → Seal key nonce aad text ≡ s → counted key nonce s.text ≡ text
seal-back key nonce aad text s e = ap (counted key nonce) (sym (seal-text key nonce aad text s e)) ∙ counted_twice key nonce text

pub seal-alone : (key nonce aad a b : List ℕ) → Seal key nonce aad a ≡ Seal key nonce aad b → a ≡ b
seal-alone key nonce aad a b e = sym (seal-back key nonce aad a (Seal key nonce aad b) e) ∙ seal-back key nonce aad b (Seal key nonce aad b) refl

-- the seal of what a ciphertext is counted to
pub seal-of : (key nonce aad sealed tag : List ℕ) → tag_of key nonce aad sealed ≡ tag
    → Seal key nonce aad (counted key nonce sealed) ≡ record { text = sealed; tag = tag }
unfolding Seal
seal-of key nonce aad sealed tag e =
    (λ i. record { text = counted_twice key nonce sealed i; tag = tag_of key nonce aad (counted_twice key nonce sealed i) })
    ∙ (λ i. record { text = sealed; tag = e i })

-- ---- the calls, by what each step gives
pub tag-is : (key nonce aad sealed h hash mask tag : List ℕ) → h ≡ cipher key (replicate 16 0) → hash ≡ hash_of h aad sealed
    → mask ≡ cipher key (counter_block nonce 0) → tag ≡ add_bytes hash mask → tag ≡ tag_of key nonce aad sealed
unfolding tag_of
tag-is key nonce aad sealed h hash mask tag eh e em et =
    et ∙ (λ i. add_bytes (e i) (em i)) ∙ ap (λ h. add_bytes (hash_of h aad sealed) (cipher key (counter_block nonce 0))) eh

pub sealed-text : (key nonce aad text sealed : List ℕ) → sealed ≡ counted key nonce text → sealed ≡ (Seal key nonce aad text).text
unfolding Seal
sealed-text key nonce aad text sealed e = e

pub sealed-tag : (key nonce aad text sealed tag : List ℕ) → sealed ≡ counted key nonce text → tag ≡ tag_of key nonce aad sealed → tag ≡ (Seal key nonce aad text).tag
unfolding Seal
sealed-tag key nonce aad text sealed tag e et = et ∙ ap (tag_of key nonce aad) e

pub opened-seal : (key nonce aad sealed tag text : List ℕ) → text ≡ counted key nonce sealed → tag_of key nonce aad sealed ≡ tag
    → Seal key nonce aad text ≡ record { text = sealed; tag = tag }
opened-seal key nonce aad sealed tag text e et = ap (Seal key nonce aad) e ∙ seal-of key nonce aad sealed tag et
