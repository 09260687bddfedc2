-- Sums, multiples and remainders of polynomials.
use Rattle.std.proofs.Common.{◌≡◌, ℕ, zero, suc, ◌+◌, ◌≤◌, Bool, true, false, ◌&&◌, List, [], ◌∷◌, ◌++◌, length, get_or, take, refl, sym, ap, ◌∙◌, arith}
use Rattle.std.proofs.lemmas.List.{append-nil, length-append, length-map, length-replicate, length-take-le, take-replicate}
use Rattle.picky_gcm.specs.Polynomial.{Mul, odd, plus, product, remainder, scale, tail, times_x, zeros}

odd_comm : (a b : Bool) → odd a b ≡ odd b a
odd_comm true true = refl
odd_comm true false = refl
odd_comm false true = refl
odd_comm false false = refl

odd_assoc : (a b c : Bool) → odd (odd a b) c ≡ odd a (odd b c)
odd_assoc true true true = refl
odd_assoc true true false = refl
odd_assoc true false true = refl
odd_assoc true false false = refl
odd_assoc false b c = refl

odd_false : (a : Bool) → odd a false ≡ a
odd_false true = refl
odd_false false = refl

and-odd : (a b c : Bool) → (a && odd b c) ≡ odd (a && b) (a && c)
and-odd true b c = refl
and-odd false b c = refl

odd-and : (a b c : Bool) → (odd a b && c) ≡ odd (a && c) (b && c)
odd-and true true true = refl
odd-and true true false = refl
odd-and true false true = refl
odd-and true false false = refl
odd-and false b c = refl

pub plus_nil : (p : List Bool) → plus p [] ≡ p
plus_nil [] = refl
plus_nil (a ∷ p) = refl

pub plus_comm : (p q : List Bool) → plus p q ≡ plus q p
plus_comm [] q = sym (plus_nil q)
plus_comm (a ∷ p) [] = refl
plus_comm (a ∷ p) (b ∷ q) = λ i. odd_comm a b i ∷ plus_comm p q i

pub plus_assoc : (p q r : List Bool) → plus (plus p q) r ≡ plus p (plus q r)
plus_assoc [] q r = refl
plus_assoc (a ∷ p) [] r = refl
plus_assoc (a ∷ p) (b ∷ q) [] = refl
plus_assoc (a ∷ p) (b ∷ q) (c ∷ r) = λ i. odd_assoc a b c i ∷ plus_assoc p q r i

pub interchange : (p q r s : List Bool) → plus (plus p q) (plus r s) ≡ plus (plus p r) (plus q s)
interchange p q r s =
    plus_assoc p q (plus r s)
    ∙ ap (plus p) (sym (plus_assoc q r s) ∙ ap (λ x. plus x s) (plus_comm q r) ∙ plus_assoc r q s)
    ∙ sym (plus_assoc p r (plus q s))

pub scale-plus : (a : Bool) (p q : List Bool) → scale a (plus p q) ≡ plus (scale a p) (scale a q)
scale-plus a [] q = refl
scale-plus a (b ∷ p) [] = refl
scale-plus a (b ∷ p) (c ∷ q) = λ i. and-odd a b c i ∷ scale-plus a p q i

pub plus-scale : (a b : Bool) (p : List Bool) → scale (odd a b) p ≡ plus (scale a p) (scale b p)
plus-scale a b [] = refl
plus-scale a b (c ∷ p) = λ i. odd-and a b c i ∷ plus-scale a b p i

pub scale_true : (p : List Bool) → scale true p ≡ p
scale_true [] = refl
scale_true (a ∷ p) = ap (λ l. a ∷ l) (scale_true p)

pub scale_false : (p : List Bool) → scale false p ≡ zeros (length p)
unfolding zeros
scale_false [] = refl
scale_false (a ∷ p) = ap (λ l. false ∷ l) (scale_false p)

take-plus : (n : ℕ) (p q : List Bool) → take n (plus p q) ≡ plus (take n p) (take n q)
take-plus zero p q = refl
take-plus (suc n) [] q = refl
take-plus (suc n) (a ∷ p) [] = refl
take-plus (suc n) (a ∷ p) (b ∷ q) = ap (λ l. odd a b ∷ l) (take-plus n p q)

get-plus : (n : ℕ) (p q : List Bool) → get_or (plus p q) n false ≡ odd (get_or p n false) (get_or q n false)
get-plus n [] q = refl
get-plus n (a ∷ p) [] = sym (odd_false (get_or (a ∷ p) n false))
get-plus zero (a ∷ p) (b ∷ q) = refl
get-plus (suc n) (a ∷ p) (b ∷ q) = get-plus n p q

pub times_x-plus : (u v : List Bool) → times_x (plus u v) ≡ plus (times_x u) (times_x v)
unfolding times_x
times_x-plus u v =
    (λ i. plus (false ∷ take-plus 127 u v i) (scale (get-plus 127 u v i) tail))
    ∙ ap (plus (plus (false ∷ take 127 u) (false ∷ take 127 v))) (plus-scale (get_or u 127 false) (get_or v 127 false) tail)
    ∙ interchange (false ∷ take 127 u) (false ∷ take 127 v) (scale (get_or u 127 false) tail) (scale (get_or v 127 false) tail)

pub plus-append : (p q r s : List Bool) → length p ≡ length q → plus (p ++ r) (q ++ s) ≡ plus p q ++ plus r s
plus-append [] [] r s h = refl
plus-append [] (b ∷ q) r s h = absurd (omega arith)
plus-append (a ∷ p) [] r s h = absurd (omega arith)
plus-append (a ∷ p) (b ∷ q) r s h = ap (λ l. odd a b ∷ l) (plus-append p q r s (omega arith))

-- ---- zeros
pub plus-zeros : (n : ℕ) (p : List Bool) → n ≤ length p → plus (zeros n) p ≡ p
unfolding zeros
plus-zeros zero p h = refl
plus-zeros (suc n) [] h = absurd (omega arith)
plus-zeros (suc n) (a ∷ p) h = ap (λ l. a ∷ l) (plus-zeros n p (omega arith))

length-plus : (p q : List Bool) (n : ℕ) → length p ≡ n → length q ≡ n → length (plus p q) ≡ n
length-plus [] q n hp hq = hq
length-plus (a ∷ p) [] n hp hq = hp
length-plus (a ∷ p) (b ∷ q) n hp hq = ap suc (length-plus p q (length p) refl (omega arith)) ∙ hp

pub plus-zeros_right : (n : ℕ) (p : List Bool) → n ≤ length p → plus p (zeros n) ≡ p
plus-zeros_right n p h = plus_comm p (zeros n) ∙ plus-zeros n p h

length-zeros : (n : ℕ) → length (zeros n) ≡ n
unfolding zeros
length-zeros n = length-replicate n false

pub length-tail : length tail ≡ 128
unfolding tail
length-tail = refl

pub length-times_x : (v : List Bool) → length v ≡ 128 → length (times_x v) ≡ 128
unfolding times_x
length-times_x v h =
    let left : length (false ∷ take 127 v) ≡ 128 = ap suc (length-take-le 127 v (omega arith)) in
    length-plus (false ∷ take 127 v) (scale (get_or v 127 false) tail) 128 left (length-map tail (λ b. get_or v 127 false && b) ∙ length-tail)

pub length-remainder : (p : List Bool) → length (remainder p) ≡ 128
unfolding remainder
length-remainder [] = length-zeros 128
length-remainder (c ∷ p) = length-plus (c ∷ zeros 127) (times_x (remainder p)) 128 (ap suc (length-zeros 127)) (length-times_x (remainder p) (length-remainder p))

plus-front : (c d : Bool) (p q : List Bool) → plus (odd c d ∷ zeros 127) (plus p q) ≡ plus (plus (c ∷ zeros 127) p) (plus (d ∷ zeros 127) q)
plus-front c d p q =
    let e : odd c d ∷ zeros 127 ≡ plus (c ∷ zeros 127) (d ∷ zeros 127) = ap (λ l. odd c d ∷ l) (sym (plus-zeros 127 (zeros 127) (omega (arith, length-zeros 127)))) in
    rw e (interchange (c ∷ zeros 127) (d ∷ zeros 127) p q)

pub remainder-plus : (p q : List Bool) → remainder (plus p q) ≡ plus (remainder p) (remainder q)
unfolding remainder
remainder-plus [] q = sym (plus-zeros 128 (remainder q) (omega (arith, length-remainder q)))
remainder-plus (a ∷ p) [] = sym (plus-zeros_right 128 (remainder (a ∷ p)) (omega (arith, length-remainder (a ∷ p))))
remainder-plus (a ∷ p) (b ∷ q) =
    ap (λ r. plus (odd a b ∷ zeros 127) (times_x r)) (remainder-plus p q)
    ∙ ap (plus (odd a b ∷ zeros 127)) (times_x-plus (remainder p) (remainder q))
    ∙ plus-front a b (times_x (remainder p)) (times_x (remainder q))

false-zeros : false ∷ zeros 127 ≡ zeros 128
unfolding zeros
false-zeros = refl

pub remainder-false : (p : List Bool) → remainder (false ∷ p) ≡ times_x (remainder p)
unfolding remainder
remainder-false p = rw false-zeros (plus-zeros 128 (times_x (remainder p)) (omega (arith, length-times_x (remainder p) (length-remainder p))))

pub times_x-zeros : times_x (zeros 128) ≡ zeros 128
unfolding times_x tail zeros
times_x-zeros = refl

rem_nil : remainder [] ≡ zeros 128
unfolding remainder
rem_nil = refl

remainder-zeros : (n : ℕ) → remainder (zeros n) ≡ zeros 128
unfolding zeros
remainder-zeros zero = rem_nil
remainder-zeros (suc n) = remainder-false (zeros n) ∙ ap times_x (remainder-zeros n) ∙ times_x-zeros

remainder-scale : (a : Bool) (p : List Bool) → remainder (scale a p) ≡ scale a (remainder p)
remainder-scale true p = ap remainder (scale_true p) ∙ sym (scale_true (remainder p))
remainder-scale false p = ap remainder (scale_false p) ∙ remainder-zeros (length p) ∙ ap zeros (sym (length-remainder p)) ∙ sym (scale_false (remainder p))

-- ---- a polynomial of at most 128 coefficients is its own remainder
get_past : (p : List Bool) (m n : ℕ) → length p ≤ n → get_or (p ++ zeros m) n false ≡ false
unfolding zeros
get_past [] zero n h = refl
get_past [] (suc m) zero h = refl
get_past [] (suc m) (suc n) h = get_past [] m n (omega arith)
get_past (a ∷ p) m zero h = absurd (omega arith)
get_past (a ∷ p) m (suc n) h = get_past p m n (omega arith)

take_past : (p : List Bool) (n k : ℕ) → length p + k ≡ n → take n (p ++ zeros (suc k)) ≡ p ++ zeros k
unfolding zeros
take_past [] n k h = take-replicate n (suc k) false (omega arith) ∙ ap zeros (sym (omega arith))
take_past (a ∷ p) zero k h = absurd (omega arith)
take_past (a ∷ p) (suc n) k h = ap (λ l. a ∷ l) (take_past p n k (omega arith))

remainder_short : (p : List Bool) (k : ℕ) → length p + k ≡ 128 → remainder p ≡ p ++ zeros k
unfolding remainder times_x
remainder_short [] k h = ap zeros (sym (omega arith))
remainder_short (c ∷ p) k h =
    let rest : remainder p ≡ p ++ zeros (suc k) = remainder_short p (suc k) (omega arith) in
    let size : length (false ∷ (p ++ zeros k)) ≡ 128 = omega (arith, length-append p (zeros k), length-zeros k) in
    let moved : times_x (remainder p) ≡ false ∷ (p ++ zeros k) =
    ap times_x rest
    ∙ (λ i. plus (false ∷ take_past p 127 k (omega arith) i) (scale (get_past p (suc k) 127 (omega arith) i) tail))
    ∙ ap (plus (false ∷ (p ++ zeros k))) (scale_false tail ∙ ap zeros length-tail)
    ∙ plus-zeros_right 128 (false ∷ (p ++ zeros k)) (omega arith) in
    ap (plus (c ∷ zeros 127)) moved
    ∙ (λ i. odd_false c i ∷ plus-zeros 127 (p ++ zeros k) (omega arith) i)

nothing : (p : List Bool) → p ++ zeros 0 ≡ p
unfolding zeros
nothing p = append-nil p

pub remainder_block : (b : List Bool) → length b ≡ 128 → remainder b ≡ b
remainder_block b h = remainder_short b 0 (omega arith) ∙ nothing b

-- ---- the product, one coefficient after another
unfoldable pub walk : List Bool → List Bool → List Bool
walk [] v = zeros 128
walk (a ∷ p) v = plus (scale a v) (walk p (times_x v))

times_x-scale : (a : Bool) (v : List Bool) → length v ≡ 128 → times_x (scale a v) ≡ scale a (times_x v)
times_x-scale true v h = ap times_x (scale_true v) ∙ sym (scale_true (times_x v))
times_x-scale false v h =
    ap times_x (scale_false v ∙ ap zeros h) ∙ times_x-zeros ∙ ap zeros (sym (length-times_x v h)) ∙ sym (scale_false (times_x v))

pub times_x-walk : (p v : List Bool) → length v ≡ 128 → times_x (walk p v) ≡ walk p (times_x v)
unfolding walk
times_x-walk [] v h = times_x-zeros
times_x-walk (a ∷ p) v h =
    times_x-plus (scale a v) (walk p (times_x v))
    ∙ (λ i. plus (times_x-scale a v h i) (times_x-walk p (times_x v) (length-times_x v h) i))

pub Mul-walk : (p b : List Bool) → length b ≡ 128 → Mul p b ≡ walk p b
unfolding Mul walk
Mul-walk [] b h = rem_nil
Mul-walk (a ∷ p) b h =
    remainder-plus (scale a b) (false ∷ product p b)
    ∙ (λ i. plus (remainder-scale a b i) (remainder-false (product p b) i))
    ∙ (λ i. plus (scale a (remainder_block b h i)) (times_x (Mul-walk p b h i)))
    ∙ ap (plus (scale a b)) (times_x-walk p b h)

pub length-walk : (p v : List Bool) → length v ≡ 128 → length (walk p v) ≡ 128
unfolding walk
length-walk [] v h = length-zeros 128
length-walk (a ∷ p) v h = length-plus (scale a v) (walk p (times_x v)) 128 (length-map v (λ b. a && b) ∙ h) (length-walk p (times_x v) (length-times_x v h))
