-- The key's block in the front of an array, and HMAC from what the two hashers hold.
use Rattle.std.proofs.Common.{◌≡◌, ℕ, zero, suc, ◌+◌, ◌-◌, ◌<◌, ◌≤◌, true, false, nat_lt, List, [], ◌∷◌, ◌++◌, length, map, take, drop, replicate, ap, ◌∙◌, subst, arith, bit_xor}
use Rattle.std.proofs.lemmas.Bool.Decides.{nat_tests}
use Rattle.std.proofs.lemmas.List.{drop-replicate, length-take-le, take-map, take-replicate}
use Rattle.picky_kdf.specs.Hash.{block_size, digest, digest_size}
use Rattle.picky_kdf.specs.Hasher.{IsHolding}
use Rattle.picky_kdf.specs.Hmac.{hmac, key_block, padded_key, zero_filled}
use Rattle.picky_kdf.specs.declared.hash.Hasher.{Hasher}
use Rattle.picky_kdf.specs.declared.hash.Pkcs12HashAlgorithm.{Pkcs12HashAlgorithm}
use Rattle.picky_kdf.proofs.Sizes.{block_size-le, digest_size-le, digest_size-lt}

-- zeros to the end of an array, cut to n bytes
take-filled : (n : ℕ) (text : List ℕ) (k : ℕ) → length text ≤ n → n ≤ length text + k → take n (text ++ replicate k 0) ≡ zero_filled n text
take-filled n [] k low high = take-replicate n k 0 (omega arith) ∙ ap (λ j. replicate j 0) (omega arith)
take-filled zero (x ∷ text) k low high = absurd (omega arith)
take-filled (suc n) (x ∷ text) k low high =
    let e : n - length text ≡ suc n - suc (length text) = omega arith in
    ap (λ t. x ∷ t) (take-filled n text k (omega arith) (omega arith)) ∙ ap (λ j. x ∷ (text ++ replicate j 0)) e

take-in_array : (n : ℕ) (text : List ℕ) (k : ℕ) → length text ≡ k → k ≤ n → n ≤ 128 → take n (text ++ drop k (replicate 128 0)) ≡ zero_filled n text
take-in_array n text k e low high =
    ap (λ t. take n (text ++ t)) (drop-replicate k 128 0) ∙ take-filled n text (128 - k) (omega arith) (omega arith)

pub long_key : (hash : Pkcs12HashAlgorithm) (key text digested : List ℕ) (size block : ℕ) → block ≡ block_size hash → block < length key → size ≡ digest_size hash → length digested ≡ 64 → take (digest_size hash) digested ≡ digest hash key → text ≡ take size digested
    → take (block_size hash) (text ++ drop size (replicate 128 0)) ≡ key_block hash key
long_key hash key text digested size block eb long es ld ed et =
    let is_long : nat_lt (block_size hash) (length key) ≡ true = grind (arith, nat_tests) in
    let count : length text ≡ size = ap length et ∙ length-take-le size digested (omega (arith, digest_size-le hash)) in
    let same : text ≡ digest hash key = et ∙ ap (λ j. take j digested) es ∙ ed in
    rw is_long (take-in_array (block_size hash) text size count (omega (arith, digest_size-lt hash)) (block_size-le hash) ∙ ap (zero_filled (block_size hash)) same)

pub short_key : (hash : Pkcs12HashAlgorithm) (key text : List ℕ) (block : ℕ) → block ≡ block_size hash → length key ≤ block → text ≡ key
    → take (block_size hash) (text ++ drop (length key) (replicate 128 0)) ≡ key_block hash key
short_key hash key text block eb short et =
    let is_short : nat_lt (block_size hash) (length key) ≡ false = grind (arith, nat_tests) in
    rw is_short (take-in_array (block_size hash) text (length key) (ap length et) (omega arith) (block_size-le hash) ∙ ap (zero_filled (block_size hash)) et)

-- the front of a masked block is the padded key
pub front-padded : (hash : Pkcs12HashAlgorithm) (pad : ℕ) (key block masked : List ℕ) (size : ℕ) → take (block_size hash) block ≡ key_block hash key → masked ≡ map (λ byte. bit_xor byte pad) block → size ≡ block_size hash
    → take size masked ≡ padded_key hash pad key
front-padded hash pad key block masked size eb em es =
    (λ i. take (es i) (em i)) ∙ take-map (λ byte. bit_xor byte pad) (block_size hash) block ∙ ap (map (λ byte. bit_xor byte pad)) eb

-- what a hasher holds may be written otherwise
pub holding_as : (hash : Pkcs12HashAlgorithm) (hasher : Hasher) (was now : List ℕ) → was ≡ now → IsHolding hash hasher was → IsHolding hash hasher now
holding_as hash hasher was now e h = subst (IsHolding hash hasher) e h

pub mac-is : (hash : Pkcs12HashAlgorithm) (key message inner out : List ℕ) (size : ℕ) → size ≡ digest_size hash
    → take (digest_size hash) inner ≡ digest hash (padded_key hash 0x36 key ++ message)
    → take (digest_size hash) out ≡ digest hash (padded_key hash 0x5C key ++ take size inner)
    → take (digest_size hash) out ≡ hmac hash key message
unfolding hmac
mac-is hash key message inner out size es ei eo =
    eo ∙ ap (λ t. digest hash (padded_key hash 0x5C key ++ t)) (ap (λ n. take n inner) es ∙ ei)
