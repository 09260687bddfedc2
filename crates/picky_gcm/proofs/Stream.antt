-- The key stream, byte by byte.
use Rattle.std.proofs.Common.{◌≡◌, ℕ, ◌+◌, ◌-◌, ◌*◌, ◌/◌, ◌%◌, ◌^◌, ◌<◌, ◌≤◌, List, [], ◌∷◌, ◌++◌, length, map, drop, get_or, set, slice_index, refl, sym, ap, ◌∙◌, arith, bit_xor, append_assoc}
use Rattle.std.specs.List.{range_with_len}
use Rattle.std.specs.Int.{to_be_bytes, w32}
use Rattle.std.specs.Int.Bits.{xor_self, xor_zero_r}
use lib.Bits.{xor_assoc}
use Rattle.std.proofs.lemmas.List.{append-nil, drop_all, drop_more, get_or-append_right, get_or-drop, length-append, length-drop, set-append_right}
use Rattle.std.proofs.lemmas.List.FromFn.{fill_by_all, get_or-map-range_with_len, length-map-range_with_len, map-range_with_len_more}
use Rattle.picky_aes.specs.Cipher.{cipher}
use Rattle.picky_gcm.specs.Counter.{counted, counted_to, counter_block, stream_byte}

pub block-is : (nonce bs : List ℕ) (k : ℕ) → length nonce ≡ 12 → k + 1 < 2 ^ 32 → bs ≡ to_be_bytes w32 (k + 1)
    → slice_index nonce 0 ∷ slice_index nonce 1 ∷ slice_index nonce 2 ∷ slice_index nonce 3 ∷ slice_index nonce 4 ∷ slice_index nonce 5 ∷ slice_index nonce 6 ∷ slice_index nonce 7 ∷ slice_index nonce 8 ∷ slice_index nonce 9 ∷ slice_index nonce 10 ∷ slice_index nonce 11 ∷ slice_index bs 0 ∷ slice_index bs 1 ∷ slice_index bs 2 ∷ slice_index bs 3 ∷ []
    ≡ counter_block nonce k
block-is nonce bs k l h e =
    let n : k + 1 ≡ (1 + k) % 2 ^ 32 = omega arith in
    ap (λ bs. map (slice_index nonce) (range_with_len 0 12) ++ (slice_index bs 0 ∷ slice_index bs 1 ∷ slice_index bs 2 ∷ slice_index bs 3 ∷ [])) e
    ∙ ap (λ l. l ++ to_be_bytes w32 (k + 1)) (sym (fill_by_all (slice_index nonce) nonce 12 0 l (λ k h. refl)))
    ∙ ap (λ x. nonce ++ to_be_bytes w32 x) n

-- one more element of a loop that writes f m at each place m, where f m is what stands there plus t
written-more : (f : ℕ → ℕ) (s zs : List ℕ) (m t : ℕ) → m < length s → zs ≡ map f (range_with_len 0 m) ++ drop m s → f m ≡ bit_xor (get_or s m 0) t
    → set zs m (bit_xor (get_or zs m 0) t) ≡ map f (range_with_len 0 (m + 1)) ++ drop (m + 1) s
written-more f s zs m t h e ef =
    let front : List ℕ = map f (range_with_len 0 m) in
    let size : length front ≡ m = length-map-range_with_len f 0 m in
    let none : m - m ≡ 0 = omega arith in
    let same : m + 0 ≡ m = omega arith in
    let read : get_or zs m 0 ≡ get_or s m 0 =
    ap (λ l. get_or l m 0) e ∙ get_or-append_right front (drop m s) m m 0 size (omega arith) ∙ ap (λ i. get_or (drop m s) i 0) none ∙ get_or-drop m s 0 0 ∙ ap (λ i. get_or s i 0) same in
    ap (λ y. set zs m (bit_xor y t)) read ∙ ap (set zs m) (sym ef) ∙ ap (λ l. set l m (f m)) e
    ∙ set-append_right front (drop m s) m m (f m) size (omega arith)
    ∙ ap (λ i. front ++ set (drop m s) i (f m)) none
    ∙ ap (λ l. front ++ set l 0 (f m)) (drop_more s m 0 h)
    ∙ sym (append_assoc front (f m ∷ []) (drop (m + 1) s))
    ∙ ap (λ l. l ++ drop (m + 1) s) (sym (map-range_with_len_more f 0 m m (omega arith)))

-- the byte at place i of block k
stream_byte-at : (key nonce stream : List ℕ) (k i j : ℕ) → i < 16 → j ≡ 16 * k + i → stream ≡ cipher key (counter_block nonce (k + 1))
    → stream_byte key nonce j ≡ slice_index stream i
unfolding stream_byte
stream_byte-at key nonce stream k i j h ej e =
    let q : 1 + j / 16 ≡ k + 1 = omega arith in
    let r : j % 16 ≡ i = omega arith in
    (λ d. slice_index (cipher key (counter_block nonce (q d))) (r d)) ∙ ap (λ s. slice_index s i) (sym e)

-- the sum of byte j of a text and the key stream
abbrev sum_at : List ℕ → List ℕ → List ℕ → ℕ → ℕ
sum_at key nonce s j = bit_xor (slice_index s j) (stream_byte key nonce j)

length-counted_to : (key nonce s : List ℕ) (m : ℕ) → length (counted_to key nonce s m) ≡ m + (length s - m)
unfolding counted_to
length-counted_to key nonce s m =
    length-append (map (sum_at key nonce s) (range_with_len 0 m)) (drop m s)
    ∙ (λ i. length-map-range_with_len (sum_at key nonce s) 0 m i + length-drop m s i)

pub counted-none : (key nonce s : List ℕ) → s ≡ counted_to key nonce s 0
unfolding counted_to
counted-none key nonce s = refl

counted-next : (key nonce s zs stream : List ℕ) (k i m p : ℕ) → i < 16 → m ≡ 16 * k + i → p ≡ m + 1 → m < length s → stream ≡ cipher key (counter_block nonce (k + 1))
    → zs ≡ counted_to key nonce s m → set zs m (bit_xor (get_or zs m 0) (slice_index stream i)) ≡ counted_to key nonce s p
unfolding counted_to
counted-next key nonce s zs stream k i m p h em ep l e done =
    written-more (sum_at key nonce s) s zs m (slice_index stream i) l done
    (ap (bit_xor (slice_index s m)) (stream_byte-at key nonce stream k i m h em e))
    ∙ ap (λ q. map (sum_at key nonce s) (range_with_len 0 q) ++ drop q s) (sym ep)

-- one more byte of the n that are counted from byte 16 * k of old on
pub counted-more : (key nonce s old zs stream : List ℕ) (k i n m : ℕ) → i < n → n ≤ 16 → m ≡ 16 * k + i → 16 * k + n ≤ length old → stream ≡ cipher key (counter_block nonce (k + 1))
    → old ≡ counted_to key nonce s (16 * k) → zs ≡ counted_to key nonce s m → set zs m (bit_xor (get_or zs m 0) (slice_index stream i)) ≡ counted_to key nonce s (m + 1)
counted-more key nonce s old zs stream k i n m h hn em room e eo done =
    let size : length old ≡ 16 * k + (length s - 16 * k) = ap length eo ∙ length-counted_to key nonce s (16 * k) in
    counted-next key nonce s zs stream k i m (m + 1) (omega arith) em refl (omega arith) e done

pub counted-place : (key nonce s zs : List ℕ) (m n : ℕ) → m ≡ n → zs ≡ counted_to key nonce s m → zs ≡ counted_to key nonce s n
counted-place key nonce s zs m n e done = done ∙ ap (counted_to key nonce s) e

pub stream-place : (key nonce stream : List ℕ) (m n : ℕ) → m ≡ n → stream ≡ cipher key (counter_block nonce m) → stream ≡ cipher key (counter_block nonce n)
stream-place key nonce stream m n h e = e ∙ ap (λ k. cipher key (counter_block nonce k)) h

pub counted-all : (key nonce s zs : List ℕ) (m : ℕ) → m ≡ length s → zs ≡ counted_to key nonce s m → zs ≡ counted key nonce s
unfolding counted counted_to
counted-all key nonce s zs m e done =
    done ∙ ap (λ q. map (sum_at key nonce s) (range_with_len 0 q) ++ drop q s) e
    ∙ ap (λ l. map (sum_at key nonce s) (range_with_len 0 (length s)) ++ l) (drop_all (length s) s (omega arith)) ∙ append-nil (map (sum_at key nonce s) (range_with_len 0 (length s)))

-- ---- the key stream added twice
length-counted : (key nonce s : List ℕ) → length (counted key nonce s) ≡ length s
unfolding counted
length-counted key nonce s = length-map-range_with_len (sum_at key nonce s) 0 (length s)

counted-at : (key nonce s : List ℕ) (j : ℕ) → j < length s → slice_index (counted key nonce s) j ≡ sum_at key nonce s j
unfolding counted
counted-at key nonce s j h = get_or-map-range_with_len (sum_at key nonce s) 0 (length s) j j 0 h (omega arith)

xor_twice : (x y : ℕ) → bit_xor (bit_xor x y) y ≡ x
xor_twice x y = xor_assoc x y y ∙ ap (bit_xor x) (xor_self y) ∙ xor_zero_r x

counted_by : (key nonce s : List ℕ) (n : ℕ) → n ≡ length s → map (sum_at key nonce s) (range_with_len 0 n) ≡ counted key nonce s
unfolding counted
counted_by key nonce s n e = ap (λ n. map (sum_at key nonce s) (range_with_len 0 n)) e

pub counted_twice : (key nonce s : List ℕ) → counted key nonce (counted key nonce s) ≡ s
counted_twice key nonce s =
    let c : List ℕ = counted key nonce s in
    let size : length c ≡ length s = length-counted key nonce s in
    sym (fill_by_all (sum_at key nonce c) s (length s) 0 refl
    (λ j h. sym (ap (λ x. bit_xor x (stream_byte key nonce j)) (counted-at key nonce s j h) ∙ xor_twice (slice_index s j) (stream_byte key nonce j)))
    ∙ counted_by key nonce c (length s) (sym size))
