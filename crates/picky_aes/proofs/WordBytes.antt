-- Words of 32 bits by their bytes: sums, low words, and the words of a longer list.
use Rattle.std.proofs.Common.{◌≡◌, ℕ, zero, suc, ◌+◌, ◌-◌, ◌*◌, ◌/◌, ◌%◌, ◌^◌, ◌<◌, ◌≤◌, List, [], ◌∷◌, ◌++◌, length, take, drop, get_or, set, slice_index, refl, sym, ap, ◌∙◌, arith, bit_xor, lit<, mod-lt}
use Rattle.std.specs.Int.{from_be_bytes, to_be_bytes, w32, w64}
use Rattle.std.proofs.lemmas.Nat.{be_bytes_8, shr-shr, xor_mod, xor_shr}
use Rattle.picky_contract.specs.Sums.{add_bytes}
use Rattle.picky_aes.specs.Cipher.{IsBlock, round_key, word_at}
use Rattle.picky_aes.specs.Words.{bytes_of}
use Rattle.std.proofs.lemmas.List.{take_more_set}
use Rattle.std.proofs.lemmas.List.Concat.{flat_map-append}
use Rattle.std.proofs.Math.Seq.{take-add}
use Rattle.picky_aes.proofs.Columns.{by_places}
use Rattle.picky_aes.proofs.Inverse.{HasKeys}
use Rattle.picky_aes.proofs.Schedule.{word-is}

-- ---- one word
byte-xor : (a b k : ℕ) → bit_xor a b / 2 ^ k % 2 ^ 8 ≡ bit_xor (a / 2 ^ k % 2 ^ 8) (b / 2 ^ k % 2 ^ 8)
byte-xor a b k = ap (λ x. x % 2 ^ 8) (xor_shr a b k) ∙ xor_mod (a / 2 ^ k) (b / 2 ^ k) 8

pub bytes-xor : (a b : ℕ) → to_be_bytes w32 (bit_xor a b) ≡ add_bytes (to_be_bytes w32 a) (to_be_bytes w32 b)
bytes-xor a b = λ i. byte-xor a b 24 i ∷ byte-xor a b 16 i ∷ byte-xor a b 8 i ∷ xor_mod a b 8 i ∷ []

pub byte-lt : (n : ℕ) → n % 256 < 256
byte-lt n = mod-lt _ (lit< tt)

eight-lt : (p q r s : ℕ) → p < 256 → q < 256 → r < 256 → s < 256 → (i : ℕ) → get_or (p ∷ q ∷ r ∷ s ∷ p ∷ q ∷ r ∷ s ∷ []) i 0 < 256
eight-lt p q r s hp hq hr hs zero = hp
eight-lt p q r s hp hq hr hs (suc zero) = hq
eight-lt p q r s hp hq hr hs (suc (suc zero)) = hr
eight-lt p q r s hp hq hr hs (suc (suc (suc zero))) = hs
eight-lt p q r s hp hq hr hs (suc (suc (suc (suc zero)))) = hp
eight-lt p q r s hp hq hr hs (suc (suc (suc (suc (suc zero))))) = hq
eight-lt p q r s hp hq hr hs (suc (suc (suc (suc (suc (suc zero)))))) = hr
eight-lt p q r s hp hq hr hs (suc (suc (suc (suc (suc (suc (suc zero))))))) = hs
eight-lt p q r s hp hq hr hs (suc (suc (suc (suc (suc (suc (suc (suc i)))))))) = lit< tt

pub bytes-of_four_twice : (p q r s n : ℕ) → p < 256 → q < 256 → r < 256 → s < 256 → n ≡ from_be_bytes w64 (p ∷ q ∷ r ∷ s ∷ p ∷ q ∷ r ∷ s ∷ []) → to_be_bytes w64 n ≡ p ∷ q ∷ r ∷ s ∷ p ∷ q ∷ r ∷ s ∷ []
bytes-of_four_twice p q r s n hp hq hr hs e = be_bytes_8 (p ∷ q ∷ r ∷ s ∷ p ∷ q ∷ r ∷ s ∷ []) n refl (eight-lt p q r s hp hq hr hs) e

-- a byte of the low word
low-3 : (m : ℕ) → m % 4294967296 / 16777216 % 256 ≡ m / 16777216 % 256
low-3 m = omega arith

low-2 : (m : ℕ) → m % 4294967296 / 65536 % 256 ≡ m / 65536 % 256
low-2 m = omega arith

low-1 : (m : ℕ) → m % 4294967296 / 256 % 256 ≡ m / 256 % 256
low-1 m = omega arith

low-0 : (m : ℕ) → m % 4294967296 % 256 ≡ m % 256
low-0 m = omega arith

pub low_word-bytes : (m : ℕ) → to_be_bytes w32 (m % 2 ^ 32) ≡ to_be_bytes w32 m
low_word-bytes m = λ i. low-3 m i ∷ low-2 m i ∷ low-1 m i ∷ low-0 m i ∷ []

-- the low word of a number that is shifted right by k bits
pub low_word-shifted : (n k : ℕ) → to_be_bytes w32 (n / 2 ^ k % 2 ^ 32) ≡ n / 2 ^ (k + 24) % 256 ∷ n / 2 ^ (k + 16) % 256 ∷ n / 2 ^ (k + 8) % 256 ∷ n / 2 ^ k % 256 ∷ []
low_word-shifted n k = low_word-bytes (n / 2 ^ k) ∙ (λ i. shr-shr n k 24 i % 256 ∷ shr-shr n k 16 i % 256 ∷ shr-shr n k 8 i % 256 ∷ n / 2 ^ k % 256 ∷ [])

-- ---- the words of a list
pub length-bytes_of : (ws : List ℕ) → length (bytes_of ws) ≡ 4 * length ws
length-bytes_of [] = refl
length-bytes_of (w ∷ ws) = let rest = length-bytes_of ws in omega (arith, rest)

pub long-bytes_of : (ws : List ℕ) → length ws ≡ 60 → length (bytes_of ws) ≡ 240
long-bytes_of ws h = length-bytes_of ws ∙ ap (λ n. 4 * n) h

pub bytes_of-lt : (ws : List ℕ) (i : ℕ) → slice_index (bytes_of ws) i < 256
bytes_of-lt [] i = lit< tt
bytes_of-lt (w ∷ ws) zero = byte-lt _
bytes_of-lt (w ∷ ws) (suc zero) = byte-lt _
bytes_of-lt (w ∷ ws) (suc (suc zero)) = byte-lt _
bytes_of-lt (w ∷ ws) (suc (suc (suc zero))) = byte-lt _
bytes_of-lt (w ∷ ws) (suc (suc (suc (suc i)))) = bytes_of-lt ws i

drop-none : (m : ℕ) → drop {A = ℕ} m [] ≡ []
drop-none zero = refl
drop-none (suc m) = refl

take-none : (m : ℕ) → take {A = ℕ} m [] ≡ []
take-none zero = refl
take-none (suc m) = refl

pub drop-bytes_of : (ws : List ℕ) (k m : ℕ) → m ≡ 4 * k → drop m (bytes_of ws) ≡ bytes_of (drop k ws)
drop-bytes_of [] k m e = drop-none m ∙ ap bytes_of (sym (drop-none k))
drop-bytes_of (w ∷ ws) zero m e = let none : m ≡ 0 = omega arith in rw none refl
drop-bytes_of (w ∷ ws) (suc k) m e = let more : m ≡ suc (suc (suc (suc (4 * k)))) = omega arith in rw more (drop-bytes_of ws k (4 * k) refl)

pub take-bytes_of : (ws : List ℕ) (k m : ℕ) → m ≡ 4 * k → take m (bytes_of ws) ≡ bytes_of (take k ws)
take-bytes_of [] k m e = take-none m ∙ ap bytes_of (sym (take-none k))
take-bytes_of (w ∷ ws) zero m e = let none : m ≡ 0 = omega arith in rw none refl
take-bytes_of (w ∷ ws) (suc k) m e =
    let more : m ≡ suc (suc (suc (suc (4 * k)))) = omega arith in
    rw more (ap (λ l. to_be_bytes w32 w ++ l) (take-bytes_of ws k (4 * k) refl))

-- four words of a key schedule are a round key
pub round_key-words : (ws : List ℕ) (r : ℕ) → 4 * r + 4 ≤ length ws
    → bytes_of (slice_index ws (4 * r) ∷ slice_index ws (4 * r + 1) ∷ slice_index ws (4 * r + 2) ∷ slice_index ws (4 * r + 3) ∷ []) ≡ round_key (bytes_of ws) r
round_key-words ws r h =
    ap bytes_of (word-is ws r h)
    ∙ sym (take-bytes_of (drop (4 * r) ws) (4 * r + 4 - 4 * r) (16 * r + 16 - 16 * r) (omega arith))
    ∙ ap (take (16 * r + 16 - 16 * r)) (sym (drop-bytes_of ws (4 * r) (16 * r) (omega arith)))

-- one more word of an array of bytes
pub words-more : (ws bs : List ℕ) (i w : ℕ) → i < length ws → 4 * i + 4 ≤ length bs → bytes_of (take i ws) ≡ take (4 * i) bs
    → to_be_bytes w32 w ≡ word_at bs i → bytes_of (take (i + 1) (set ws i w)) ≡ take (4 * (i + 1)) bs
words-more ws bs i w h hb e ew =
    let next : 4 * (i + 1) ≡ 4 * i + 4 = omega arith in
    let four : 4 * i + 4 - 4 * i ≡ 4 = omega arith in
    ap bytes_of (take_more_set ws i w h)
    ∙ flat_map-append (to_be_bytes w32) (take i ws) (w ∷ [])
    ∙ (λ j. e j ++ (ew ∙ ap (λ k. take k (drop (4 * i) bs)) four) j)
    ∙ sym (take-add (4 * i) 4 bs) ∙ ap (λ k. take k bs) (sym next)

-- ---- four words
pub IsBlock-bytes_of : (ws : List ℕ) → length ws ≡ 4 → IsBlock (bytes_of ws)
IsBlock-bytes_of ws h = record { size = length-bytes_of ws ∙ ap (λ n. 4 * n) h; bytes = bytes_of-lt ws }

pub IsBlock-four : (s : List ℕ) (a b c d : ℕ) → s ≡ bytes_of (a ∷ b ∷ c ∷ d ∷ []) → IsBlock s
IsBlock-four s a b c d e = rw e (IsBlock-bytes_of (a ∷ b ∷ c ∷ d ∷ []) refl)

pub has-keys : (ws : List ℕ) (n : ℕ) → length ws ≡ 60 → n ≤ 13 → HasKeys (bytes_of ws) n
has-keys ws n h le = record { size = omega (arith, h, le, length-bytes_of ws); bytes = bytes_of-lt ws }

pub words-is : (b : List ℕ) (e f g h : ℕ) → length b ≡ 16
    → to_be_bytes w32 e ≡ slice_index b 0 ∷ slice_index b 1 ∷ slice_index b 2 ∷ slice_index b 3 ∷ []
    → to_be_bytes w32 f ≡ slice_index b 4 ∷ slice_index b 5 ∷ slice_index b 6 ∷ slice_index b 7 ∷ []
    → to_be_bytes w32 g ≡ slice_index b 8 ∷ slice_index b 9 ∷ slice_index b 10 ∷ slice_index b 11 ∷ []
    → to_be_bytes w32 h ≡ slice_index b 12 ∷ slice_index b 13 ∷ slice_index b 14 ∷ slice_index b 15 ∷ []
    → bytes_of (e ∷ f ∷ g ∷ h ∷ []) ≡ b
words-is b e f g h size ee ef eg eh = (λ i. ee i ++ (ef i ++ (eg i ++ eh i))) ∙ by_places b size

pub words_add : (a b c d k l m n : ℕ) → bytes_of (bit_xor a k ∷ bit_xor b l ∷ bit_xor c m ∷ bit_xor d n ∷ []) ≡ add_bytes (bytes_of (a ∷ b ∷ c ∷ d ∷ [])) (bytes_of (k ∷ l ∷ m ∷ n ∷ []))
words_add a b c d k l m n = λ i. bytes-xor a k i ++ (bytes-xor b l i ++ (bytes-xor c m i ++ bytes-xor d n i))

-- the words of a round key, by their places
pub key-words : (ws : List ℕ) (r i : ℕ) → i ≡ 4 * r → i + 4 ≤ length ws
    → bytes_of (slice_index ws i ∷ slice_index ws (i + 1) ∷ slice_index ws (i + 2) ∷ slice_index ws (i + 3) ∷ []) ≡ round_key (bytes_of ws) r
key-words ws r i e h =
    let fits : 4 * r + 4 ≤ length ws = omega arith in
    ap (λ j. bytes_of (slice_index ws j ∷ slice_index ws (j + 1) ∷ slice_index ws (j + 2) ∷ slice_index ws (j + 3) ∷ [])) e ∙ round_key-words ws r fits

pub key-words-next : (ws : List ℕ) (r : ℕ) → 4 * r + 8 ≤ length ws
    → bytes_of (slice_index ws (4 * r + 4) ∷ slice_index ws (4 * r + 5) ∷ slice_index ws (4 * r + 6) ∷ slice_index ws (4 * r + 7) ∷ []) ≡ round_key (bytes_of ws) (r + 1)
key-words-next ws r h =
    let e5 : 4 * r + 5 ≡ 4 * r + 4 + 1 = omega arith in
    let e6 : 4 * r + 6 ≡ 4 * r + 4 + 2 = omega arith in
    let e7 : 4 * r + 7 ≡ 4 * r + 4 + 3 = omega arith in
    (λ i. bytes_of (slice_index ws (4 * r + 4) ∷ slice_index ws (e5 i) ∷ slice_index ws (e6 i) ∷ slice_index ws (e7 i) ∷ []))
    ∙ key-words ws (r + 1) (4 * r + 4) (omega arith) (omega arith)
