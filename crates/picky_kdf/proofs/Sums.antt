-- Sums of iterated HMACs.
use Rattle.std.proofs.Common.{◌≡◌, ℕ, zero, suc, ◌+◌, ◌<◌, List, [], ◌∷◌, ◌++◌, length, take, drop, get_or, set, replicate, refl, sym, ap, ◌∙◌, arith, add-one, bit_xor}
use Rattle.std.specs.Int.{to_be_bytes, w32}
use Rattle.std.specs.Int.Bits.{xor_zero_l}
use Rattle.picky_kdf.specs.Hash.{digest, digest_size}
use Rattle.picky_kdf.specs.Hmac.{hmac, padded_key}
use Rattle.picky_contract.specs.Sums.{add_bytes}
use Rattle.picky_kdf.specs.Pbkdf2.{iterated, key_sum}
use Rattle.picky_kdf.specs.declared.hash.Pkcs12HashAlgorithm.{Pkcs12HashAlgorithm}

add_bytes-step : (xs ys : List ℕ) (i : ℕ) → i < length xs → i < length ys
    → set (add_bytes (take i xs) (take i ys) ++ drop i xs) i (bit_xor (get_or (add_bytes (take i xs) (take i ys) ++ drop i xs) i 0) (get_or ys i 0))
    ≡ add_bytes (take (suc i) xs) (take (suc i) ys) ++ drop (suc i) xs
add_bytes-step [] ys i in_xs in_ys = absurd (omega arith)
add_bytes-step (x ∷ xs) [] i in_xs in_ys = absurd (omega arith)
add_bytes-step (x ∷ xs) (y ∷ ys) zero in_xs in_ys = refl
add_bytes-step (x ∷ xs) (y ∷ ys) (suc i) in_xs in_ys = ap (λ t. bit_xor x y ∷ t) (add_bytes-step xs ys i (omega arith) (omega arith))

-- a loop that adds ys to xs in place
pub added_more : (xs ys zs : List ℕ) (i : ℕ) → i < length xs → i < length ys → zs ≡ add_bytes (take i xs) (take i ys) ++ drop i xs
    → set zs i (bit_xor (get_or zs i 0) (get_or ys i 0)) ≡ add_bytes (take (i + 1) xs) (take (i + 1) ys) ++ drop (i + 1) xs
added_more xs ys zs i in_xs in_ys e = rw (e, add-one) (add_bytes-step xs ys i in_xs in_ys)

pub added_size : (xs ys : List ℕ) → length xs ≡ length ys → length (add_bytes xs ys) ≡ length xs
added_size [] ys e = refl
added_size (x ∷ xs) [] e = absurd (omega arith)
added_size (x ∷ xs) (y ∷ ys) e = ap suc (added_size xs ys (omega arith))

add_bytes-zeros : (n : ℕ) (xs : List ℕ) → length xs ≡ n → add_bytes (replicate n 0) xs ≡ xs
add_bytes-zeros zero [] e = refl
add_bytes-zeros zero (x ∷ xs) e = absurd (omega arith)
add_bytes-zeros (suc n) [] e = absurd (omega arith)
add_bytes-zeros (suc n) (x ∷ xs) e = (λ i. xor_zero_l x i ∷ add_bytes-zeros n xs (omega arith) i)

-- U_1
pub first-iterated : (hash : Pkcs12HashAlgorithm) (password salt : List ℕ) (number : ℕ) (bytes out : List ℕ) → bytes ≡ to_be_bytes w32 number → take (digest_size hash) out ≡ hmac hash password (salt ++ bytes)
    → take (digest_size hash) out ≡ iterated hash password salt number 1
unfolding iterated
first-iterated hash password salt number bytes out eb e = e ∙ ap (λ t. hmac hash password (salt ++ t)) eb

-- the sum of U_1 alone
pub first-sum : (hash : Pkcs12HashAlgorithm) (password salt : List ℕ) (number : ℕ) (out : List ℕ) → length out ≡ digest_size hash → out ≡ iterated hash password salt number 1
    → out ≡ key_sum hash password salt number 1
unfolding key_sum
first-sum hash password salt number out size e =
    sym (add_bytes-zeros (digest_size hash) out size) ∙ ap (add_bytes (replicate (digest_size hash) 0)) e

-- U_(n + 1) from U_n
pub next-iterated : (hash : Pkcs12HashAlgorithm) (password salt : List ℕ) (number n : ℕ) (last inner out : List ℕ)
    → last ≡ iterated hash password salt number n → inner ≡ digest hash (padded_key hash 0x36 password ++ last) → out ≡ digest hash (padded_key hash 0x5C password ++ inner)
    → out ≡ iterated hash password salt number (n + 1)
unfolding hmac iterated
next-iterated hash password salt number n last inner out el ei eo =
    rw (add-one n) (eo ∙ ap (λ t. digest hash (padded_key hash 0x5C password ++ t)) ei ∙ ap (hmac hash password) el)

-- U_1 + … + U_n + U_(n + 1)
pub next-sum : (hash : Pkcs12HashAlgorithm) (password salt : List ℕ) (number n : ℕ) (out sum new : List ℕ)
    → sum ≡ key_sum hash password salt number n → out ≡ iterated hash password salt number (n + 1) → new ≡ add_bytes sum out
    → new ≡ key_sum hash password salt number (n + 1)
unfolding key_sum
next-sum hash password salt number n out sum new es eo en =
    en ∙ (λ j. add_bytes (es j) ((eo ∙ ap (iterated hash password salt number) (add-one n)) j)) ∙ ap (key_sum hash password salt number) (sym (add-one n))
