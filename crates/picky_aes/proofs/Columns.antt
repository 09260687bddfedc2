-- {0b} x ^ 3 + {0d} x ^ 2 + {09} x + {0e} undoes {03} x ^ 3 + {01} x ^ 2 + {01} x + {02} on a column.
use Rattle.std.proofs.Common.{◌≡◌, ℕ, ◌<◌, List, [], ◌∷◌, length, map, slice_index, refl, sym, ap, ◌∙◌, bit_xor}
use Rattle.std.specs.List.{range_with_len}
use Rattle.std.specs.Int.Bits.{xor_zero_r}
use Rattle.std.proofs.lemmas.List.FromFn.{fill_by_all}
use Rattle.picky_aes.specs.Cipher.{IsBlock, times_columns}
use Rattle.std.proofs.lemmas.Nat.{xor_comm, xor_of_8}
use lib.Bits.{xor_assoc}
use Rattle.picky_aes.specs.Field.{product}
use Rattle.picky_aes.proofs.Table.{at_bytes}
use Rattle.picky_aes.proofs.Linear.{interchange, product-lt, product-xor}

abbrev pub sum4 : ℕ → ℕ → ℕ → ℕ → ℕ
sum4 a b c d = bit_xor (bit_xor (bit_xor a b) c) d

pub sum4-rotate : (a b c d : ℕ) → sum4 a b c d ≡ sum4 d a b c
sum4-rotate a b c d = xor_comm _ d ∙ ap (bit_xor d) (xor_assoc a b c) ∙ sym (xor_assoc d a (bit_xor b c)) ∙ sym (xor_assoc (bit_xor d a) b c)

sum4-xor : (a b c d e f g h : ℕ) → bit_xor (sum4 a b c d) (sum4 e f g h) ≡ sum4 (bit_xor a e) (bit_xor b f) (bit_xor c g) (bit_xor d h)
sum4-xor a b c d e f g h =
    interchange (bit_xor (bit_xor a b) c) d (bit_xor (bit_xor e f) g) h
    ∙ ap (λ x. bit_xor x (bit_xor d h)) (interchange (bit_xor a b) c (bit_xor e f) g ∙ ap (λ x. bit_xor x (bit_xor c g)) (interchange a b e f))

product-sum4 : (k a b c d : ℕ) → a < 256 → b < 256 → c < 256 → d < 256 → product k (sum4 a b c d) ≡ sum4 (product k a) (product k b) (product k c) (product k d)
product-sum4 k a b c d ha hb hc hd =
    product-xor k (bit_xor (bit_xor a b) c) d (xor_of_8 _ _ (xor_of_8 _ _ ha hb) hc) hd
    ∙ ap (λ x. bit_xor x (product k d)) (product-xor k (bit_xor a b) c (xor_of_8 _ _ ha hb) hc ∙ ap (λ x. bit_xor x (product k c)) (product-xor k a b ha hb))

-- the product of a column with a fixed one is linear in the column
pub products-xor : (p0 p1 p2 p3 a b c d e f g h : ℕ) → a < 256 → b < 256 → c < 256 → d < 256 → e < 256 → f < 256 → g < 256 → h < 256
    → bit_xor (sum4 (product p0 a) (product p1 b) (product p2 c) (product p3 d)) (sum4 (product p0 e) (product p1 f) (product p2 g) (product p3 h))
    ≡ sum4 (product p0 (bit_xor a e)) (product p1 (bit_xor b f)) (product p2 (bit_xor c g)) (product p3 (bit_xor d h))
products-xor p0 p1 p2 p3 a b c d e f g h ha hb hc hd he hf hg hh =
    sum4-xor (product p0 a) (product p1 b) (product p2 c) (product p3 d) (product p0 e) (product p1 f) (product p2 g) (product p3 h)
    ∙ sym (λ i. sum4 (product-xor p0 a e ha he i) (product-xor p1 b f hb hf i) (product-xor p2 c g hc hg i) (product-xor p3 d h hd hh i))

transposed : (a b c d e f g h k l m n o p q r : ℕ)
    → sum4 (sum4 a b c d) (sum4 e f g h) (sum4 k l m n) (sum4 o p q r) ≡ sum4 (sum4 a e k o) (sum4 b f l p) (sum4 c g m q) (sum4 d h n r)
transposed a b c d e f g h k l m n o p q r =
    ap (λ x. bit_xor (bit_xor x (sum4 k l m n)) (sum4 o p q r)) (sum4-xor a b c d e f g h)
    ∙ ap (λ x. bit_xor x (sum4 o p q r)) (sum4-xor (bit_xor a e) (bit_xor b f) (bit_xor c g) (bit_xor d h) k l m n)
    ∙ sum4-xor (bit_xor (bit_xor a e) k) (bit_xor (bit_xor b f) l) (bit_xor (bit_xor c g) m) (bit_xor (bit_xor d h) n) o p q r

sum4-zeros : (a : ℕ) → sum4 a 0 0 0 ≡ a
sum4-zeros a = rw (xor_zero_r a, xor_zero_r a, xor_zero_r a) refl

-- two columns p and q with product 1: the coefficient of x ^ i of q times p, at a byte
module _ (p0 p1 p2 p3 q0 q1 q2 q3 : ℕ)
    (i0 : (x : ℕ) → x < 256 → sum4 (product p0 (product q0 x)) (product p1 (product q3 x)) (product p2 (product q2 x)) (product p3 (product q1 x)) ≡ x)
    (i1 : (x : ℕ) → x < 256 → sum4 (product p0 (product q1 x)) (product p1 (product q0 x)) (product p2 (product q3 x)) (product p3 (product q2 x)) ≡ 0)
    (i2 : (x : ℕ) → x < 256 → sum4 (product p0 (product q2 x)) (product p1 (product q1 x)) (product p2 (product q0 x)) (product p3 (product q3 x)) ≡ 0)
    (i3 : (x : ℕ) → x < 256 → sum4 (product p0 (product q3 x)) (product p1 (product q2 x)) (product p2 (product q1 x)) (product p3 (product q0 x)) ≡ 0)
  where
    expanded : (p a b c d : ℕ) (qa qb qc qd : ℕ) → a < 256 → b < 256 → c < 256 → d < 256
        → product p (sum4 (product qa a) (product qb b) (product qc c) (product qd d))
        ≡ sum4 (product p (product qa a)) (product p (product qb b)) (product p (product qc c)) (product p (product qd d))
    expanded p a b c d qa qb qc qd ha hb hc hd = product-sum4 p _ _ _ _ (product-lt qa a ha) (product-lt qb b hb) (product-lt qc c hc) (product-lt qd d hd)

    pub column_back : (a b c d : ℕ) → a < 256 → b < 256 → c < 256 → d < 256
        → sum4 (product p0 (sum4 (product q0 a) (product q1 d) (product q2 c) (product q3 b)))
        (product p1 (sum4 (product q0 d) (product q1 c) (product q2 b) (product q3 a)))
        (product p2 (sum4 (product q0 c) (product q1 b) (product q2 a) (product q3 d)))
        (product p3 (sum4 (product q0 b) (product q1 a) (product q2 d) (product q3 c))) ≡ a
    column_back a b c d ha hb hc hd =
        let e0 = expanded p0 a d c b q0 q1 q2 q3 ha hd hc hb in
        let e1 = ap (product p1) (sum4-rotate (product q0 d) (product q1 c) (product q2 b) (product q3 a)) ∙ expanded p1 a d c b q3 q0 q1 q2 ha hd hc hb in
        let e2 = ap (product p2) (sum4-rotate (product q0 c) (product q1 b) (product q2 a) (product q3 d) ∙ sum4-rotate (product q3 d) (product q0 c) (product q1 b) (product q2 a)) ∙ expanded p2 a d c b q2 q3 q0 q1 ha hd hc hb in
        let e3 = ap (product p3) (sum4-rotate (product q0 b) (product q1 a) (product q2 d) (product q3 c) ∙ sum4-rotate (product q3 c) (product q0 b) (product q1 a) (product q2 d) ∙ sum4-rotate (product q2 d) (product q3 c) (product q0 b) (product q1 a)) ∙ expanded p3 a d c b q1 q2 q3 q0 ha hd hc hb in
        (λ i. sum4 (e0 i) (e1 i) (e2 i) (e3 i))
        ∙ transposed (product p0 (product q0 a)) (product p0 (product q1 d)) (product p0 (product q2 c)) (product p0 (product q3 b)) (product p1 (product q3 a)) (product p1 (product q0 d)) (product p1 (product q1 c)) (product p1 (product q2 b)) (product p2 (product q2 a)) (product p2 (product q3 d)) (product p2 (product q0 c)) (product p2 (product q1 b)) (product p3 (product q1 a)) (product p3 (product q2 d)) (product p3 (product q3 c)) (product p3 (product q0 b))
        ∙ (λ i. sum4 (i0 a ha i) (i1 d hd i) (i2 c hc i) (i3 b hb i))
        ∙ sum4-zeros a

-- the two columns' coefficients, by computing
back0 : (x : ℕ) → x < 256 → sum4 (product 2 (product 14 x)) (product 1 (product 11 x)) (product 1 (product 13 x)) (product 3 (product 9 x)) ≡ x
unfolding product
back0 = at_bytes (λ x. sum4 (product 2 (product 14 x)) (product 1 (product 11 x)) (product 1 (product 13 x)) (product 3 (product 9 x))) (λ x. x) refl

back1 : (x : ℕ) → x < 256 → sum4 (product 2 (product 9 x)) (product 1 (product 14 x)) (product 1 (product 11 x)) (product 3 (product 13 x)) ≡ 0
unfolding product
back1 = at_bytes (λ x. sum4 (product 2 (product 9 x)) (product 1 (product 14 x)) (product 1 (product 11 x)) (product 3 (product 13 x))) (λ x. 0) refl

back2 : (x : ℕ) → x < 256 → sum4 (product 2 (product 13 x)) (product 1 (product 9 x)) (product 1 (product 14 x)) (product 3 (product 11 x)) ≡ 0
unfolding product
back2 = at_bytes (λ x. sum4 (product 2 (product 13 x)) (product 1 (product 9 x)) (product 1 (product 14 x)) (product 3 (product 11 x))) (λ x. 0) refl

back3 : (x : ℕ) → x < 256 → sum4 (product 2 (product 11 x)) (product 1 (product 13 x)) (product 1 (product 9 x)) (product 3 (product 14 x)) ≡ 0
unfolding product
back3 = at_bytes (λ x. sum4 (product 2 (product 11 x)) (product 1 (product 13 x)) (product 1 (product 9 x)) (product 3 (product 14 x))) (λ x. 0) refl

forth0 : (x : ℕ) → x < 256 → sum4 (product 14 (product 2 x)) (product 9 (product 3 x)) (product 13 (product 1 x)) (product 11 (product 1 x)) ≡ x
unfolding product
forth0 = at_bytes (λ x. sum4 (product 14 (product 2 x)) (product 9 (product 3 x)) (product 13 (product 1 x)) (product 11 (product 1 x))) (λ x. x) refl

forth1 : (x : ℕ) → x < 256 → sum4 (product 14 (product 1 x)) (product 9 (product 2 x)) (product 13 (product 3 x)) (product 11 (product 1 x)) ≡ 0
unfolding product
forth1 = at_bytes (λ x. sum4 (product 14 (product 1 x)) (product 9 (product 2 x)) (product 13 (product 3 x)) (product 11 (product 1 x))) (λ x. 0) refl

forth2 : (x : ℕ) → x < 256 → sum4 (product 14 (product 1 x)) (product 9 (product 1 x)) (product 13 (product 2 x)) (product 11 (product 3 x)) ≡ 0
unfolding product
forth2 = at_bytes (λ x. sum4 (product 14 (product 1 x)) (product 9 (product 1 x)) (product 13 (product 2 x)) (product 11 (product 3 x))) (λ x. 0) refl

forth3 : (x : ℕ) → x < 256 → sum4 (product 14 (product 3 x)) (product 9 (product 1 x)) (product 13 (product 1 x)) (product 11 (product 2 x)) ≡ 0
unfolding product
forth3 = at_bytes (λ x. sum4 (product 14 (product 3 x)) (product 9 (product 1 x)) (product 13 (product 1 x)) (product 11 (product 2 x))) (λ x. 0) refl

-- a block by its places
pub by_places : (s : List ℕ) → length s ≡ 16 → map (slice_index s) (range_with_len 0 16) ≡ s
by_places s e = sym (fill_by_all (slice_index s) s 16 0 e (λ k h. refl))

pub columns_back : (s : List ℕ) → IsBlock s → times_columns (2 ∷ 1 ∷ 1 ∷ 3 ∷ []) (times_columns (14 ∷ 9 ∷ 13 ∷ 11 ∷ []) s) ≡ s
columns_back s block =
    let at : (i j k l : ℕ) → sum4 (product 2 (sum4 (product 14 (slice_index s i)) (product 9 (slice_index s l)) (product 13 (slice_index s k)) (product 11 (slice_index s j)))) (product 1 (sum4 (product 14 (slice_index s l)) (product 9 (slice_index s k)) (product 13 (slice_index s j)) (product 11 (slice_index s i)))) (product 1 (sum4 (product 14 (slice_index s k)) (product 9 (slice_index s j)) (product 13 (slice_index s i)) (product 11 (slice_index s l)))) (product 3 (sum4 (product 14 (slice_index s j)) (product 9 (slice_index s i)) (product 13 (slice_index s l)) (product 11 (slice_index s k)))) ≡ slice_index s i = λ i j k l. column_back 2 1 1 3 14 9 13 11 back0 back1 back2 back3 _ _ _ _ (block.bytes i) (block.bytes j) (block.bytes k) (block.bytes l) in
    let each : times_columns (2 ∷ 1 ∷ 1 ∷ 3 ∷ []) (times_columns (14 ∷ 9 ∷ 13 ∷ 11 ∷ []) s) ≡ map (slice_index s) (range_with_len 0 16) = λ i. at 0 1 2 3 i ∷ at 1 2 3 0 i ∷ at 2 3 0 1 i ∷ at 3 0 1 2 i ∷ at 4 5 6 7 i ∷ at 5 6 7 4 i ∷ at 6 7 4 5 i ∷ at 7 4 5 6 i ∷ at 8 9 10 11 i ∷ at 9 10 11 8 i ∷ at 10 11 8 9 i ∷ at 11 8 9 10 i ∷ at 12 13 14 15 i ∷ at 13 14 15 12 i ∷ at 14 15 12 13 i ∷ at 15 12 13 14 i ∷ [] in
    each ∙ by_places s block.size

pub columns_forth : (s : List ℕ) → IsBlock s → times_columns (14 ∷ 9 ∷ 13 ∷ 11 ∷ []) (times_columns (2 ∷ 1 ∷ 1 ∷ 3 ∷ []) s) ≡ s
columns_forth s block =
    let at : (i j k l : ℕ) → sum4 (product 14 (sum4 (product 2 (slice_index s i)) (product 1 (slice_index s l)) (product 1 (slice_index s k)) (product 3 (slice_index s j)))) (product 9 (sum4 (product 2 (slice_index s l)) (product 1 (slice_index s k)) (product 1 (slice_index s j)) (product 3 (slice_index s i)))) (product 13 (sum4 (product 2 (slice_index s k)) (product 1 (slice_index s j)) (product 1 (slice_index s i)) (product 3 (slice_index s l)))) (product 11 (sum4 (product 2 (slice_index s j)) (product 1 (slice_index s i)) (product 1 (slice_index s l)) (product 3 (slice_index s k)))) ≡ slice_index s i = λ i j k l. column_back 14 9 13 11 2 1 1 3 forth0 forth1 forth2 forth3 _ _ _ _ (block.bytes i) (block.bytes j) (block.bytes k) (block.bytes l) in
    let each : times_columns (14 ∷ 9 ∷ 13 ∷ 11 ∷ []) (times_columns (2 ∷ 1 ∷ 1 ∷ 3 ∷ []) s) ≡ map (slice_index s) (range_with_len 0 16) = λ i. at 0 1 2 3 i ∷ at 1 2 3 0 i ∷ at 2 3 0 1 i ∷ at 3 0 1 2 i ∷ at 4 5 6 7 i ∷ at 5 6 7 4 i ∷ at 6 7 4 5 i ∷ at 7 4 5 6 i ∷ at 8 9 10 11 i ∷ at 9 10 11 8 i ∷ at 10 11 8 9 i ∷ at 11 8 9 10 i ∷ at 12 13 14 15 i ∷ at 13 14 15 12 i ∷ at 14 15 12 13 i ∷ at 15 12 13 14 i ∷ [] in
    each ∙ by_places s block.size
