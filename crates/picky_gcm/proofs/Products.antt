-- Products with a block: of sums, of polynomials that begin with four coefficients, and of those of four alone.
use Rattle.std.proofs.Common.{◌≡◌, ℕ, zero, suc, ◌+◌, ◌*◌, ◌/◌, ◌%◌, ◌^◌, ◌<◌, Bool, true, false, List, [], ◌∷◌, ◌++◌, length, get_or, refl, sym, ap, ◌∙◌, arith, append_assoc, lit<, lit≤}
use Rattle.std.proofs.lemmas.List.{append-nil}
use Rattle.picky_gcm.specs.Polynomial.{Mul, block_of, coefficients, plus, remainder, scale, times_x, zeros}
use Rattle.picky_gcm.specs.Table.{IsMoved, IsTable, pair_block, pair_bytes, times_x4}
use Rattle.picky_gcm.proofs.Digits.{block-pair, coefficients-add, coefficients-low, pair-coefficients}
use Rattle.picky_gcm.proofs.PairSteps.{length-pair_block, pair-zero, times_x4-plus}
use Rattle.picky_gcm.proofs.Walk.{Mul-walk, interchange, length-times_x, length-walk, plus-scale, plus-zeros, plus-zeros_right, plus_assoc, plus_comm, scale_false, scale_true, times_x-plus, times_x-walk, times_x-zeros, walk}
use borrow.Author.Count.{below_more, below_none}

-- ---- one coefficient and the others
Mul-one : (a : Bool) (p h : List Bool) → length h ≡ 128 → Mul (a ∷ p) h ≡ plus (scale a h) (times_x (Mul p h))
unfolding walk
Mul-one a p h l = Mul-walk (a ∷ p) h l ∙ ap (plus (scale a h)) (sym (times_x-walk p h l) ∙ ap times_x (sym (Mul-walk p h l)))

pub length-Mul : (p h : List Bool) → length h ≡ 128 → length (Mul p h) ≡ 128
length-Mul p h l = ap length (Mul-walk p h l) ∙ length-walk p h l

Mul-none : (h : List Bool) → Mul [] h ≡ zeros 128
unfolding Mul remainder
Mul-none h = refl

Mul-shifted : (p h : List Bool) → length h ≡ 128 → Mul (false ∷ p) h ≡ times_x (Mul p h)
Mul-shifted p h l =
    Mul-one false p h l
    ∙ ap (λ z. plus z (times_x (Mul p h))) (scale_false h ∙ ap zeros l)
    ∙ plus-zeros 128 (times_x (Mul p h)) (omega (arith, length-times_x (Mul p h) (length-Mul p h l)))

-- ---- four coefficients and the others
carry : (a : Bool) (p q h t : List Bool) → length h ≡ 128 → Mul p h ≡ plus (Mul q h) t → Mul (a ∷ p) h ≡ plus (Mul (a ∷ q) h) (times_x t)
carry a p q h t l e =
    Mul-one a p h l ∙ ap (λ r. plus (scale a h) (times_x r)) e ∙ ap (plus (scale a h)) (times_x-plus (Mul q h) t)
    ∙ sym (plus_assoc (scale a h) (times_x (Mul q h)) (times_x t)) ∙ ap (λ r. plus r (times_x t)) (sym (Mul-one a q h l))

nothing : (p h : List Bool) → length h ≡ 128 → Mul p h ≡ plus (Mul [] h) (Mul p h)
nothing p h l = sym (ap (λ z. plus z (Mul p h)) (Mul-none h) ∙ plus-zeros 128 (Mul p h) (omega (arith, length-Mul p h l)))

Mul_four : (a b c d : Bool) (p h : List Bool) → length h ≡ 128 → Mul (a ∷ b ∷ c ∷ d ∷ p) h ≡ plus (Mul (a ∷ b ∷ c ∷ d ∷ []) h) (times_x4 (Mul p h))
Mul_four a b c d p h l =
    carry a (b ∷ c ∷ d ∷ p) (b ∷ c ∷ d ∷ []) h (times_x (times_x (times_x (Mul p h)))) l
    (carry b (c ∷ d ∷ p) (c ∷ d ∷ []) h (times_x (times_x (Mul p h))) l
    (carry c (d ∷ p) (d ∷ []) h (times_x (Mul p h)) l
    (carry d p [] h (Mul p h) l (nothing p h l))))

low-four : (y : ℕ) → coefficients 4 (y % 16) ≡ coefficients 4 y
low-four y = let whole : y / 16 * 16 + y % 16 ≡ y = omega arith in sym (ap (coefficients 4) (sym whole) ∙ coefficients-low 4 4 (y / 16) (y % 16) (lit≤ tt))

-- one step: z is the product of the n lowest coefficients of x and of p, t is x ^ 4 times it, e is the entry, w the sum
pub step-four : (x n m : ℕ) (p h z t e w : List Bool) → length h ≡ 128 → m ≡ n + 4 → z ≡ Mul (coefficients n x ++ p) h → t ≡ times_x4 z
    → e ≡ Mul (coefficients 4 (x / 2 ^ n % 16)) h → w ≡ plus t e → w ≡ Mul (coefficients m x ++ p) h
unfolding coefficients
step-four x n m p h z t e w l em ez et ee ew =
    let y : ℕ = x / 2 ^ n in
    let rest : List Bool = coefficients n x ++ p in
    let more : coefficients m x ++ p ≡ coefficients 4 y ++ rest =
    ap (λ c. c ++ p) (coefficients-add 4 n m x (omega arith)) ∙ append_assoc (coefficients 4 y) (coefficients n x) p in
    ew
    ∙ (λ i. plus (et i) (ee i))
    ∙ ap (λ v. plus (times_x4 v) (Mul (coefficients 4 (y % 16)) h)) ez
    ∙ plus_comm (times_x4 (Mul rest h)) (Mul (coefficients 4 (y % 16)) h)
    ∙ ap (λ c. plus (Mul c h) (times_x4 (Mul rest h))) (low-four y)
    ∙ sym (Mul_four _ _ _ _ rest h l)
    ∙ ap (λ c. Mul c h) (sym more)

-- two steps: u is x ^ 8 times z, d the later entry times x ^ 4, e the other entry, w their sum
pub step-eight : (x n m : ℕ) (p h z u d e s w : List Bool) → length h ≡ 128 → m ≡ n + 8 → z ≡ Mul (coefficients n x ++ p) h → u ≡ times_x4 (times_x4 z)
    → d ≡ times_x4 (Mul (coefficients 4 (x / 2 ^ n % 16)) h) → e ≡ Mul (coefficients 4 (x / 2 ^ (n + 4) % 16)) h → s ≡ plus u d → w ≡ plus s e
    → w ≡ Mul (coefficients m x ++ p) h
step-eight x n m p h z u d e s w l em ez eu ed ee es ew =
    let c : List Bool = Mul (coefficients 4 (x / 2 ^ n % 16)) h in
    let half : plus (times_x4 z) c ≡ Mul (coefficients (n + 4) x ++ p) h = step-four x n (n + 4) p h z (times_x4 z) c (plus (times_x4 z) c) l refl ez refl refl refl in
    let sum : s ≡ times_x4 (plus (times_x4 z) c) = es ∙ (λ i. plus (eu i) (ed i)) ∙ sym (times_x4-plus (times_x4 z) c) in
    step-four x (n + 4) m p h (plus (times_x4 z) c) s e w l (omega arith) half sum ee ew

-- ---- the products of four coefficients alone
times_one : (m : ℕ) (h : List Bool) → length h ≡ 128 → Mul (zeros m) h ≡ zeros 128
unfolding zeros
times_one zero h l = Mul-none h
times_one (suc m) h l = Mul-shifted (zeros m) h l ∙ ap times_x (times_one m h l) ∙ times_x-zeros

Mul-unit : (m : ℕ) (h : List Bool) → length h ≡ 128 → Mul (true ∷ zeros m) h ≡ h
Mul-unit m h l =
    Mul-one true (zeros m) h l
    ∙ (λ i. plus (scale_true h i) ((ap times_x (times_one m h l) ∙ times_x-zeros) i))
    ∙ plus-zeros_right 128 h (omega arith)

walk-plus : (p q v : List Bool) → length p ≡ length q → length v ≡ 128 → walk (plus p q) v ≡ plus (walk p v) (walk q v)
unfolding walk zeros
walk-plus [] [] v e l = refl
walk-plus [] (b ∷ q) v e l = absurd (omega arith)
walk-plus (a ∷ p) [] v e l = absurd (omega arith)
walk-plus (a ∷ p) (b ∷ q) v e l =
    (λ i. plus (plus-scale a b v i) (walk-plus p q (times_x v) (omega arith) (length-times_x v l) i))
    ∙ interchange (scale a v) (scale b v) (walk p (times_x v)) (walk q (times_x v))

Mul-plus : (p q h : List Bool) → length p ≡ length q → length h ≡ 128 → Mul (plus p q) h ≡ plus (Mul p h) (Mul q h)
Mul-plus p q h e l =
    Mul-walk (plus p q) h l ∙ walk-plus p q h e l ∙ (λ i. plus (sym (Mul-walk p h l) i) (sym (Mul-walk q h l) i))

-- entry k of the table under h
abbrev IsEntry : List Bool → ℕ → ℕ × ℕ → Type 0
IsEntry h k e = pair_block e ≡ Mul (coefficients 4 k) h

entry-sum : (i j k : ℕ) (h : List Bool) (e f g : ℕ × ℕ) → length h ≡ 128 → IsEntry h i e → IsEntry h j f → pair_block g ≡ plus (pair_block e) (pair_block f)
    → coefficients 4 k ≡ plus (coefficients 4 i) (coefficients 4 j) → IsEntry h k g
unfolding coefficients
entry-sum i j k h e f g l pe pf pg s =
    pg ∙ (λ d. plus (pe d) (pf d)) ∙ sym (Mul-plus (coefficients 4 i) (coefficients 4 j) h refl l) ∙ ap (λ c. Mul c h) (sym s)

entry-0 : (h : List Bool) → length h ≡ 128 → IsEntry h 0 (0, 0)
unfolding coefficients zeros
entry-0 h l = pair-zero ∙ sym (times_one 4 h l)

entry-8 : (k : ℕ × ℕ) → IsEntry (pair_block k) 8 k
unfolding coefficients zeros
entry-8 k = sym (Mul-unit 3 (pair_block k) (length-pair_block k))

entry-4 : (h : List Bool) (e : ℕ × ℕ) → length h ≡ 128 → pair_block e ≡ times_x h → IsEntry h 4 e
unfolding coefficients zeros
entry-4 h e l p = p ∙ ap times_x (sym (Mul-unit 2 h l)) ∙ sym (Mul-shifted (true ∷ zeros 2) h l)

entry-2 : (h : List Bool) (e f : ℕ × ℕ) → length h ≡ 128 → pair_block e ≡ times_x h → pair_block f ≡ times_x (pair_block e) → IsEntry h 2 f
unfolding coefficients zeros
entry-2 h e f l p q =
    q ∙ ap times_x (p ∙ ap times_x (sym (Mul-unit 1 h l)) ∙ sym (Mul-shifted (true ∷ zeros 1) h l)) ∙ sym (Mul-shifted (false ∷ true ∷ zeros 1) h l)

entry-1 : (h : List Bool) (e f g : ℕ × ℕ) → length h ≡ 128 → pair_block e ≡ times_x h → pair_block f ≡ times_x (pair_block e)
    → pair_block g ≡ times_x (pair_block f) → IsEntry h 1 g
unfolding coefficients zeros
entry-1 h e f g l p q r =
    r ∙ ap times_x (q ∙ ap times_x (p ∙ ap times_x (sym (Mul-unit 0 h l)) ∙ sym (Mul-shifted (true ∷ zeros 0) h l)) ∙ sym (Mul-shifted (false ∷ true ∷ zeros 0) h l))
    ∙ sym (Mul-shifted (false ∷ false ∷ true ∷ zeros 0) h l)

-- ---- the whole table
pub table-is : (k e1 e2 e3 e4 e5 e6 e7 e9 e10 e11 e12 e13 e14 e15 : ℕ × ℕ)
    → pair_block e4 ≡ times_x (pair_block k) → pair_block e2 ≡ times_x (pair_block e4) → pair_block e1 ≡ times_x (pair_block e2)
    → pair_block e3 ≡ plus (pair_block e2) (pair_block e1) → pair_block e5 ≡ plus (pair_block e4) (pair_block e1)
    → pair_block e6 ≡ plus (pair_block e4) (pair_block e2) → pair_block e7 ≡ plus (pair_block e4) (pair_block e3)
    → pair_block e9 ≡ plus (pair_block k) (pair_block e1) → pair_block e10 ≡ plus (pair_block k) (pair_block e2)
    → pair_block e11 ≡ plus (pair_block k) (pair_block e3) → pair_block e12 ≡ plus (pair_block k) (pair_block e4)
    → pair_block e13 ≡ plus (pair_block k) (pair_block e5) → pair_block e14 ≡ plus (pair_block k) (pair_block e6)
    → pair_block e15 ≡ plus (pair_block k) (pair_block e7)
    → IsTable (pair_block k) ((0, 0) ∷ e1 ∷ e2 ∷ e3 ∷ e4 ∷ e5 ∷ e6 ∷ e7 ∷ k ∷ e9 ∷ e10 ∷ e11 ∷ e12 ∷ e13 ∷ e14 ∷ e15 ∷ [])
unfolding coefficients
table-is k e1 e2 e3 e4 e5 e6 e7 e9 e10 e11 e12 e13 e14 e15 p4 p2 p1 p3 p5 p6 p7 p9 p10 p11 p12 p13 p14 p15 =
    let h : List Bool = pair_block k in
    let l : length h ≡ 128 = length-pair_block k in
    let i1 : IsEntry h 1 e1 = entry-1 h e4 e2 e1 l p4 p2 p1 in
    let i2 : IsEntry h 2 e2 = entry-2 h e4 e2 l p4 p2 in
    let i4 : IsEntry h 4 e4 = entry-4 h e4 l p4 in
    let i8 : IsEntry h 8 k = entry-8 k in
    let i3 : IsEntry h 3 e3 = entry-sum 2 1 3 h e2 e1 e3 l i2 i1 p3 refl in
    let i5 : IsEntry h 5 e5 = entry-sum 4 1 5 h e4 e1 e5 l i4 i1 p5 refl in
    let i6 : IsEntry h 6 e6 = entry-sum 4 2 6 h e4 e2 e6 l i4 i2 p6 refl in
    let i7 : IsEntry h 7 e7 = entry-sum 4 3 7 h e4 e3 e7 l i4 i3 p7 refl in
    let i9 : IsEntry h 9 e9 = entry-sum 8 1 9 h k e1 e9 l i8 i1 p9 refl in
    let i10 : IsEntry h 10 e10 = entry-sum 8 2 10 h k e2 e10 l i8 i2 p10 refl in
    let i11 : IsEntry h 11 e11 = entry-sum 8 3 11 h k e3 e11 l i8 i3 p11 refl in
    let i12 : IsEntry h 12 e12 = entry-sum 8 4 12 h k e4 e12 l i8 i4 p12 refl in
    let i13 : IsEntry h 13 e13 = entry-sum 8 5 13 h k e5 e13 l i8 i5 p13 refl in
    let i14 : IsEntry h 14 e14 = entry-sum 8 6 14 h k e6 e14 l i8 i6 p14 refl in
    let i15 : IsEntry h 15 e15 = entry-sum 8 7 15 h k e7 e15 l i8 i7 p15 refl in
    let t : List (ℕ × ℕ) = (0, 0) ∷ e1 ∷ e2 ∷ e3 ∷ e4 ∷ e5 ∷ e6 ∷ e7 ∷ k ∷ e9 ∷ e10 ∷ e11 ∷ e12 ∷ e13 ∷ e14 ∷ e15 ∷ [] in
    let P = λ (i : ℕ). IsEntry h i (get_or t i (0, 0)) in
    below_more P 15 (below_more P 14 (below_more P 13 (below_more P 12 (below_more P 11 (below_more P 10 (below_more P 9 (below_more P 8
    (below_more P 7 (below_more P 6 (below_more P 5 (below_more P 4 (below_more P 3 (below_more P 2 (below_more P 1 (below_more P 0 (below_none P)
    (entry-0 h l)) i1) i2) i3) i4) i5) i6) i7) i8) i9) i10) i11) i12) i13) i14) i15

-- ---- the table moved by x ^ 4
moved-entry : (h : List Bool) (t : List (ℕ × ℕ)) (k : ℕ) (r : ℕ × ℕ) → IsTable h t → k < 16 → pair_block r ≡ times_x4 (pair_block (get_or t k (0, 0))) → pair_block r ≡ times_x4 (Mul (coefficients 4 k) h)
moved-entry h t k r table l e = e ∙ ap (λ v. times_x4 v) (table k l)

pub moved-is : (h : List Bool) (t : List (ℕ × ℕ)) (r0 r1 r2 r3 r4 r5 r6 r7 r8 r9 r10 r11 r12 r13 r14 r15 : ℕ × ℕ) → IsTable h t
    → pair_block r0 ≡ times_x4 (pair_block (get_or t 0 (0, 0)))
    → pair_block r1 ≡ times_x4 (pair_block (get_or t 1 (0, 0)))
    → pair_block r2 ≡ times_x4 (pair_block (get_or t 2 (0, 0)))
    → pair_block r3 ≡ times_x4 (pair_block (get_or t 3 (0, 0)))
    → pair_block r4 ≡ times_x4 (pair_block (get_or t 4 (0, 0)))
    → pair_block r5 ≡ times_x4 (pair_block (get_or t 5 (0, 0)))
    → pair_block r6 ≡ times_x4 (pair_block (get_or t 6 (0, 0)))
    → pair_block r7 ≡ times_x4 (pair_block (get_or t 7 (0, 0)))
    → pair_block r8 ≡ times_x4 (pair_block (get_or t 8 (0, 0)))
    → pair_block r9 ≡ times_x4 (pair_block (get_or t 9 (0, 0)))
    → pair_block r10 ≡ times_x4 (pair_block (get_or t 10 (0, 0)))
    → pair_block r11 ≡ times_x4 (pair_block (get_or t 11 (0, 0)))
    → pair_block r12 ≡ times_x4 (pair_block (get_or t 12 (0, 0)))
    → pair_block r13 ≡ times_x4 (pair_block (get_or t 13 (0, 0)))
    → pair_block r14 ≡ times_x4 (pair_block (get_or t 14 (0, 0)))
    → pair_block r15 ≡ times_x4 (pair_block (get_or t 15 (0, 0)))
    → IsMoved h (r0 ∷ r1 ∷ r2 ∷ r3 ∷ r4 ∷ r5 ∷ r6 ∷ r7 ∷ r8 ∷ r9 ∷ r10 ∷ r11 ∷ r12 ∷ r13 ∷ r14 ∷ r15 ∷ [])
moved-is h t r0 r1 r2 r3 r4 r5 r6 r7 r8 r9 r10 r11 r12 r13 r14 r15 table e0 e1 e2 e3 e4 e5 e6 e7 e8 e9 e10 e11 e12 e13 e14 e15 =
    let l : List (ℕ × ℕ) = r0 ∷ r1 ∷ r2 ∷ r3 ∷ r4 ∷ r5 ∷ r6 ∷ r7 ∷ r8 ∷ r9 ∷ r10 ∷ r11 ∷ r12 ∷ r13 ∷ r14 ∷ r15 ∷ [] in
    let P = λ (i : ℕ). pair_block (get_or l i (0, 0)) ≡ times_x4 (Mul (coefficients 4 i) h) in
    below_more P 15 (below_more P 14 (below_more P 13 (below_more P 12 (below_more P 11 (below_more P 10 (below_more P 9 (below_more P 8 (below_more P 7 (below_more P 6 (below_more P 5 (below_more P 4 (below_more P 3 (below_more P 2 (below_more P 1 (below_more P 0 (below_none P)
    (moved-entry h t 0 r0 table (lit< tt) e0)) (moved-entry h t 1 r1 table (lit< tt) e1)) (moved-entry h t 2 r2 table (lit< tt) e2)) (moved-entry h t 3 r3 table (lit< tt) e3)) (moved-entry h t 4 r4 table (lit< tt) e4)) (moved-entry h t 5 r5 table (lit< tt) e5)) (moved-entry h t 6 r6 table (lit< tt) e6)) (moved-entry h t 7 r7 table (lit< tt) e7)) (moved-entry h t 8 r8 table (lit< tt) e8)) (moved-entry h t 9 r9 table (lit< tt) e9)) (moved-entry h t 10 r10 table (lit< tt) e10)) (moved-entry h t 11 r11 table (lit< tt) e11)) (moved-entry h t 12 r12 table (lit< tt) e12)) (moved-entry h t 13 r13 table (lit< tt) e13)) (moved-entry h t 14 r14 table (lit< tt) e14)) (moved-entry h t 15 r15 table (lit< tt) e15)

-- ---- a polynomial of 64 coefficients and the others
pub half-begins : (x : ℕ) (p : List Bool) → p ≡ coefficients 0 x ++ p
unfolding coefficients
half-begins x p = refl

-- ---- the table of a key's bytes
key-block : (key : List ℕ) (e : ℕ × ℕ) → pair_bytes e ≡ key → pair_block e ≡ block_of key
key-block key e h = sym (block-pair e) ∙ ap block_of h

pub table-under : (key : List ℕ) (t : List (ℕ × ℕ)) → pair_bytes (get_or t 8 (0, 0)) ≡ key → IsTable (pair_block (get_or t 8 (0, 0))) t → IsTable (block_of key) t
table-under key t e table i h = table i h ∙ ap (Mul (coefficients 4 i)) (key-block key (get_or t 8 (0, 0)) e)

pub length-key : (key : List ℕ) (e : ℕ × ℕ) → pair_bytes e ≡ key → length (block_of key) ≡ 128
length-key key e h = ap length (sym (key-block key e h)) ∙ length-pair_block e

-- ---- the product of a whole block
pub product-begins : (h : List Bool) → pair_block (0, 0) ≡ Mul [] h
product-begins h = pair-zero ∙ sym (Mul-none h)

pub product-halves : (a b : ℕ) (h : List Bool) → Mul (coefficients 64 a ++ (coefficients 64 b ++ [])) h ≡ Mul (pair_block (a, b)) h
product-halves a b h = ap (λ p. Mul p h) (ap (λ q. coefficients 64 a ++ q) (append-nil (coefficients 64 b)) ∙ sym (pair-coefficients a b))
