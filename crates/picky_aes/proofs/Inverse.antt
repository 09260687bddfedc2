-- Each step of the cipher_under can be undone, so a block is known by what it encrypts to.
use Rattle.std.proofs.Common.{◌≡◌, ℕ, zero, suc, ◌+◌, ◌-◌, ◌*◌, ◌/◌, ◌%◌, ◌<◌, ◌≤◌, List, [], ◌∷◌, length, map, drop, get_or, slice_index, refl, sym, ap, ◌∙◌, arith, bit_xor, inl, inr, lit<}
use Rattle.std.specs.List.{range_with_len}
use Rattle.std.specs.Int.Bits.{xor_self, xor_zero_r}
use lib.Bits.{xor_assoc}
use Rattle.std.proofs.lemmas.Bool.{cases_lt}
use Rattle.std.proofs.lemmas.Nat.{xor_of_8}
use Rattle.std.proofs.lemmas.List.{get_or-map, get_or-take, get_or-drop, get_or_past, length-drop, length-map, length-take}
use Rattle.std.proofs.lemmas.List.FromFn.{get_or-map-range_with_len, length-map-range_with_len}
use Rattle.picky_contract.specs.Sums.{add_bytes}
use Rattle.picky_aes.specs.Cipher.{IsBlock, cipher_under, column_product, mix_columns, round_key, rounds, shift_rows, sub_bytes, times_columns}
use Rattle.picky_aes.specs.Field.{substitute}
use Rattle.picky_aes.specs.declared.tables.TheConstants.{INVERSE_SBOX}
use Rattle.picky_aes.proofs.Columns.{by_places, columns_back, columns_forth}
use Rattle.picky_aes.proofs.Linear.{product-lt}
use Rattle.picky_aes.proofs.Table.{substitute-INVERSE_SBOX, substitute-lt}

xor_twice : (x y : ℕ) → bit_xor (bit_xor x y) y ≡ x
xor_twice x y = xor_assoc x y y ∙ ap (bit_xor x) (xor_self y) ∙ xor_zero_r x

pub add_bytes_twice : (xs ys : List ℕ) → length xs ≡ length ys → add_bytes (add_bytes xs ys) ys ≡ xs
add_bytes_twice [] ys e = refl
add_bytes_twice (x ∷ xs) [] e = absurd (omega arith)
add_bytes_twice (x ∷ xs) (y ∷ ys) e = λ i. xor_twice x y i ∷ add_bytes_twice xs ys (omega arith) i

length-add_bytes : (xs ys : List ℕ) → length xs ≡ length ys → length (add_bytes xs ys) ≡ length xs
length-add_bytes [] ys e = refl
length-add_bytes (x ∷ xs) [] e = absurd (omega arith)
length-add_bytes (x ∷ xs) (y ∷ ys) e = ap suc (length-add_bytes xs ys (omega arith))

get_or-add_bytes : (xs ys : List ℕ) (i : ℕ) → length xs ≡ length ys → get_or (add_bytes xs ys) i 0 ≡ bit_xor (get_or xs i 0) (get_or ys i 0)
get_or-add_bytes [] [] i e = refl
get_or-add_bytes [] (y ∷ ys) i e = absurd (omega arith)
get_or-add_bytes (x ∷ xs) [] i e = absurd (omega arith)
get_or-add_bytes (x ∷ xs) (y ∷ ys) zero e = refl
get_or-add_bytes (x ∷ xs) (y ∷ ys) (suc i) e = get_or-add_bytes xs ys i (omega arith)

-- ---- blocks stay blocks
pub IsBlock-add : (s k : List ℕ) → IsBlock s → IsBlock k → IsBlock (add_bytes s k)
IsBlock-add s k hs hk =
    let e : length s ≡ length k = hs.size ∙ sym hk.size in
    record {
      size = length-add_bytes s k e ∙ hs.size;
      bytes = λ i. rw (get_or-add_bytes s k i e) (xor_of_8 _ _ (hs.bytes i) (hk.bytes i));
    }

pub IsBlock-from : (f : ℕ → ℕ) → ((i : ℕ) → f i < 256) → IsBlock (map f (range_with_len 0 16))
IsBlock-from f h = record {
  size = length-map-range_with_len f 0 16;
  bytes = λ i. elim (cases_lt i 16) [
    | inl lt ↦ rw (get_or-map-range_with_len f 0 16 i i 0 lt (omega arith)) (h i)
    | inr ge ↦ rw (get_or_past (map f (range_with_len 0 16)) i 0 ge) (lit< tt)
  ];
}

IsBlock-sub : (s : List ℕ) → IsBlock s → IsBlock (sub_bytes s)
IsBlock-sub s h = record {
  size = length-map s substitute ∙ h.size;
  bytes = λ i. elim (cases_lt i 16) [
    | inl lt ↦
        let l : i < length s = omega (arith, h.size) in
        rw (get_or-map substitute s i 0 0 l) (substitute-lt _ (h.bytes i))
    | inr ge ↦
        let l : length (map substitute s) ≤ i = omega (arith, h.size, length-map s substitute) in
        rw (get_or_past (map substitute s) i 0 l) (lit< tt)
  ];
}

IsBlock-shift : (s : List ℕ) → IsBlock s → IsBlock (shift_rows s)
IsBlock-shift s h = IsBlock-from (λ i. slice_index s ((i + 4 * (i % 4)) % 16)) (λ i. h.bytes _)

IsBlock-mix : (s : List ℕ) → IsBlock s → IsBlock (mix_columns s)
IsBlock-mix s h =
    IsBlock-from (λ i. column_product (2 ∷ 1 ∷ 1 ∷ 3 ∷ []) s (4 * (i / 4)) (i % 4))
    (λ i. xor_of_8 _ _ (xor_of_8 _ _ (xor_of_8 _ _ (product-lt _ _ (h.bytes _)) (product-lt _ _ (h.bytes _))) (product-lt _ _ (h.bytes _))) (product-lt _ _ (h.bytes _)))

-- the round keys of n + 2 rounds are blocks
pub record HasKeys (w : List ℕ) (n : ℕ) : Type 0 where
  pub size : 16 * n + 32 ≤ length w
  pub bytes : (i : ℕ) → slice_index w i < 256

pub IsBlock-round_key : (w : List ℕ) (n r : ℕ) → HasKeys w n → r ≤ n + 1 → IsBlock (round_key w r)
IsBlock-round_key w n r h le =
    let e : 16 * r + 16 - 16 * r ≡ 16 = omega arith in
    let size : length (round_key w r) ≡ 16 = rw e (omega (arith, h.size, length-take 16 (drop (16 * r) w), length-drop (16 * r) w)) in
    record {
      size = size;
      bytes = λ i. elim (cases_lt i 16) [
        | inl lt ↦ rw (e, get_or-take 16 (drop (16 * r) w) i 0 lt, get_or-drop (16 * r) w i 0) (h.bytes (16 * r + i))
        | inr ge ↦ rw (get_or_past (round_key w r) i 0 (omega (arith, size))) (lit< tt)
      ];
    }

pub IsBlock-rounds : (w s : List ℕ) (n r : ℕ) → HasKeys w n → r ≤ n → IsBlock s → IsBlock (rounds w s r)
unfolding rounds
IsBlock-rounds w s n zero h le b = IsBlock-add s (round_key w 0) b (IsBlock-round_key w n 0 h (omega arith))
IsBlock-rounds w s n (suc r) h le b =
    IsBlock-add _ (round_key w (suc r)) (IsBlock-mix _ (IsBlock-shift _ (IsBlock-sub _ (IsBlock-rounds w s n r h (omega arith) b)))) (IsBlock-round_key w n (suc r) h (omega arith))

pub IsBlock-cipher : (w s : List ℕ) (n : ℕ) → HasKeys w n → IsBlock s → IsBlock (cipher_under w n s)
unfolding cipher_under
IsBlock-cipher w s n h b =
    IsBlock-add _ (round_key w (n + 1)) (IsBlock-shift _ (IsBlock-sub _ (IsBlock-rounds w s n n h (omega arith) b))) (IsBlock-round_key w n (n + 1) h (omega arith))

-- ---- each step has one source
unsub-sub : (s : List ℕ) → ((i : ℕ) → get_or s i 0 < 256) → map (slice_index INVERSE_SBOX) (map substitute s) ≡ s
unsub-sub [] h = refl
unsub-sub (x ∷ s) h = λ i. substitute-INVERSE_SBOX x (h 0) i ∷ unsub-sub s (λ k. h (suc k)) i

sub-alone : (s t : List ℕ) → IsBlock s → IsBlock t → sub_bytes s ≡ sub_bytes t → s ≡ t
sub-alone s t hs ht e = sym (unsub-sub s hs.bytes) ∙ ap (map (slice_index INVERSE_SBOX)) e ∙ unsub-sub t ht.bytes

unshifted : List ℕ → List ℕ
unshifted s = map (λ i. slice_index s ((i + 12 * (i % 4)) % 16)) (range_with_len 0 16)

unshifted-shift : (s : List ℕ) → IsBlock s → unshifted (shift_rows s) ≡ s
unfolding unshifted
unshifted-shift s h = by_places s h.size

shift-alone : (s t : List ℕ) → IsBlock s → IsBlock t → shift_rows s ≡ shift_rows t → s ≡ t
shift-alone s t hs ht e = sym (unshifted-shift s hs) ∙ ap unshifted e ∙ unshifted-shift t ht

mix-alone : (s t : List ℕ) → IsBlock s → IsBlock t → mix_columns s ≡ mix_columns t → s ≡ t
mix-alone s t hs ht e = sym (columns_forth s hs) ∙ ap (times_columns (14 ∷ 9 ∷ 13 ∷ 11 ∷ [])) e ∙ columns_forth t ht

add-alone : (s t k : List ℕ) → IsBlock s → IsBlock t → IsBlock k → add_bytes s k ≡ add_bytes t k → s ≡ t
add-alone s t k hs ht hk e =
    sym (add_bytes_twice s k (hs.size ∙ sym hk.size)) ∙ ap (λ x. add_bytes x k) e ∙ add_bytes_twice t k (ht.size ∙ sym hk.size)

rounds-alone : (w s t : List ℕ) (n r : ℕ) → HasKeys w n → r ≤ n → IsBlock s → IsBlock t → rounds w s r ≡ rounds w t r → s ≡ t
unfolding rounds
rounds-alone w s t n zero h le hs ht e = add-alone s t (round_key w 0) hs ht (IsBlock-round_key w n 0 h (omega arith)) e
rounds-alone w s t n (suc r) h le hs ht e =
    let bs : IsBlock (rounds w s r) = IsBlock-rounds w s n r h (omega arith) hs in
    let bt : IsBlock (rounds w t r) = IsBlock-rounds w t n r h (omega arith) ht in
    let ss = IsBlock-sub _ bs in
    let st = IsBlock-sub _ bt in
    let rs = IsBlock-shift _ ss in
    let rt = IsBlock-shift _ st in
    let ms = IsBlock-mix _ rs in
    let mt = IsBlock-mix _ rt in
    let e1 = add-alone _ _ (round_key w (suc r)) ms mt (IsBlock-round_key w n (suc r) h (omega arith)) e in
    rounds-alone w s t n r h (omega arith) hs ht (sub-alone _ _ bs bt (shift-alone _ _ ss st (mix-alone _ _ rs rt e1)))

-- two blocks that encrypt to one block are the same
pub cipher-alone : (w s t : List ℕ) (n : ℕ) → HasKeys w n → IsBlock s → IsBlock t → cipher_under w n s ≡ cipher_under w n t → s ≡ t
unfolding cipher_under
cipher-alone w s t n h hs ht e =
    let bs : IsBlock (rounds w s n) = IsBlock-rounds w s n n h (omega arith) hs in
    let bt : IsBlock (rounds w t n) = IsBlock-rounds w t n n h (omega arith) ht in
    let ss = IsBlock-sub _ bs in
    let st = IsBlock-sub _ bt in
    let k : IsBlock (round_key w (n + 1)) = IsBlock-round_key w n (n + 1) h (omega arith) in
    let e1 = add-alone _ _ (round_key w (n + 1)) (IsBlock-shift _ ss) (IsBlock-shift _ st) k e in
    rounds-alone w s t n n h (omega arith) hs ht (sub-alone _ _ bs bt (shift-alone _ _ ss st e1))

-- ---- decryption, step by step: y is the block to decrypt
pub cipher-back : (w y a : List ℕ) (n : ℕ) → HasKeys w n → length y ≡ 16 → a ≡ add_bytes y (round_key w (n + 1))
    → (x : List ℕ) → shift_rows (sub_bytes (rounds w x n)) ≡ a → cipher_under w n x ≡ y
unfolding cipher_under
cipher-back w y a n h l ea x ex =
    let k : IsBlock (round_key w (n + 1)) = IsBlock-round_key w n (n + 1) h (omega arith) in
    ap (λ z. add_bytes z (round_key w (n + 1))) (ex ∙ ea) ∙ add_bytes_twice y (round_key w (n + 1)) (l ∙ sym k.size)

-- s is u after SubBytes and ShiftRows, and m the state before it at the same place of the round before
pub round-back : (w s u m : List ℕ) (n r : ℕ) → HasKeys w n → r < n → IsBlock u → shift_rows (sub_bytes u) ≡ s
    → m ≡ times_columns (14 ∷ 9 ∷ 13 ∷ 11 ∷ []) (add_bytes u (round_key w (suc r)))
    → (x : List ℕ) → shift_rows (sub_bytes (rounds w x r)) ≡ m → shift_rows (sub_bytes (rounds w x (suc r))) ≡ s
unfolding rounds
round-back w s u m n r h lt bu es em x ex =
    let k : IsBlock (round_key w (suc r)) = IsBlock-round_key w n (suc r) h (omega arith) in
    let mixed : mix_columns (shift_rows (sub_bytes (rounds w x r))) ≡ add_bytes u (round_key w (suc r)) =
    ap mix_columns (ex ∙ em) ∙ columns_back (add_bytes u (round_key w (suc r))) (IsBlock-add u (round_key w (suc r)) bu k) in
    ap (λ z. shift_rows (sub_bytes z)) (ap (λ z. add_bytes z (round_key w (suc r))) mixed ∙ add_bytes_twice u (round_key w (suc r)) (bu.size ∙ sym k.size)) ∙ es

pub first-back : (w s u t : List ℕ) (n : ℕ) → HasKeys w n → IsBlock u → shift_rows (sub_bytes u) ≡ s → t ≡ add_bytes u (round_key w 0) → shift_rows (sub_bytes (rounds w t 0)) ≡ s
unfolding rounds
first-back w s u t n h bu es et =
    let k : IsBlock (round_key w 0) = IsBlock-round_key w n 0 h (omega arith) in
    ap (λ z. shift_rows (sub_bytes z)) (ap (λ z. add_bytes z (round_key w 0)) et ∙ add_bytes_twice u (round_key w 0) (bu.size ∙ sym k.size)) ∙ es
