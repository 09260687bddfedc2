-- The registers of a key wrap, cut into A, those before register i, register i and those behind it.
use Rattle.std.proofs.Common.{◌≡◌, ℕ, zero, suc, ◌+◌, ◌-◌, ◌*◌, ◌<◌, ◌≤◌, List, [], ◌∷◌, ◌++◌, length, take, drop, refl, sym, ap, subst, ◌∙◌, arith, append_assoc, lit<}
use Rattle.std.specs.Int.{to_be_bytes, w64}
use Rattle.std.proofs.lemmas.Nat.{mod_below}
use Rattle.std.proofs.lemmas.List.{drop-drop, drop_at, length-append, length-drop, length-take-le, take-append-drop, take_all, take_at}
use Rattle.picky_contract.specs.Sums.{add_bytes}
use Rattle.picky_modes.specs.Blocks.{IsBlock, IsBytes, block}
use Rattle.picky_modes.specs.KeyWrap.{register, with_register, wrap_step}
use Rattle.picky_modes.proofs.BlockLemmas.{IsBlock-block, IsBlock-xor, IsBytes-append, IsBytes-drop, IsBytes-take, block-front, block-is, block-last, length-block, length-xor, xor_twice}

-- the registers that are cut into four
abbrev pub laid : List ℕ → List ℕ → List ℕ → List ℕ → List ℕ
laid a m r z = a ++ (m ++ (r ++ z))

-- the sizes of the first three, where r is register i
pub record IsCut (i : ℕ) (a m r : List ℕ) : Type 0 where
  pub first : length a ≡ 8
  pub between : length m + 8 ≡ 8 * i
  pub one : length r ≡ 8

pub laid-split : (s : List ℕ) (i : ℕ) → 0 < i → 8 * i + 8 ≤ length s
    → (s ≡ laid (take 8 s) (take (8 * i - 8) (drop 8 s)) (block 8 s i) (drop (8 * i + 8) s)) × IsCut i (take 8 s) (take (8 * i - 8) (drop 8 s)) (block 8 s i)
laid-split s i pos fits =
    let m : ℕ = 8 * i - 8 in
    let up : 8 + m ≡ 8 * i = omega arith in
    let behind : drop m (drop 8 s) ≡ drop (8 * i) s = drop-drop m 8 s ∙ ap (λ n. drop n s) up in
    let one : drop (8 * i) s ≡ block 8 s i ++ drop (8 * i + 8) s =
    sym (take-append-drop 8 (drop (8 * i) s)) ∙ (λ k. sym (block-is 8 s i) k ++ drop-drop 8 (8 * i) s k) in
    let rest : drop 8 s ≡ take m (drop 8 s) ++ (block 8 s i ++ drop (8 * i + 8) s) =
    sym (take-append-drop m (drop 8 s)) ∙ ap (λ l. take m (drop 8 s) ++ l) (behind ∙ one) in (
      sym (take-append-drop 8 s) ∙ ap (λ l. take 8 s ++ l) rest,
      record {
        first = length-take-le 8 s (omega arith);
        between = omega (arith, length-take-le m (drop 8 s) (omega (arith, length-drop 8 s)));
        one = length-block 8 s i fits;
      },
    )

length-front : (i : ℕ) (a m r : List ℕ) → IsCut i a m r → length (a ++ m) ≡ 8 * i
length-front i a m r h = length-append a m ∙ omega (arith, h.first, h.between)

length-through : (i : ℕ) (a m r : List ℕ) → IsCut i a m r → length ((a ++ m) ++ r) ≡ 8 * i + 8
length-through i a m r h = length-append (a ++ m) r ∙ omega (arith, length-front i a m r h, h.one)

laid-front : (a m r z : List ℕ) → laid a m r z ≡ (a ++ m) ++ (r ++ z)
laid-front a m r z = sym (append_assoc a m (r ++ z))

laid-through : (a m r z : List ℕ) → laid a m r z ≡ ((a ++ m) ++ r) ++ z
laid-through a m r z = laid-front a m r z ∙ sym (append_assoc (a ++ m) r z)

pub block-first : (i : ℕ) (a m r z : List ℕ) → IsCut i a m r → block 8 (laid a m r z) 0 ≡ a
block-first i a m r z h = take_at a (m ++ (r ++ z)) 8 h.first

pub block-one : (i : ℕ) (a m r z : List ℕ) → IsCut i a m r → block 8 (laid a m r z) i ≡ r
block-one i a m r z h =
    ap (λ s. block 8 s i) (laid-through a m r z) ∙ block-front 8 ((a ++ m) ++ r) z i (omega (arith, length-through i a m r h))
    ∙ block-last 8 (a ++ m) r i (length-front i a m r h) h.one

pub with-first : (a m r z b : List ℕ) → length a ≡ 8 → with_register (laid a m r z) 0 b ≡ laid b m r z
with-first a m r z b h = ap (λ l. b ++ l) (drop_at a (m ++ (r ++ z)) 8 h)

pub with-one : (i : ℕ) (a m r z b : List ℕ) → IsCut i a m r → with_register (laid a m r z) i b ≡ laid a m b z
with-one i a m r z b h =
    let front : take (8 * i) (laid a m r z) ≡ a ++ m = ap (take (8 * i)) (laid-front a m r z) ∙ take_at (a ++ m) (r ++ z) (8 * i) (length-front i a m r h) in
    let back : drop (8 * i + 8) (laid a m r z) ≡ z = ap (drop (8 * i + 8)) (laid-through a m r z) ∙ drop_at ((a ++ m) ++ r) z (8 * i + 8) (length-through i a m r h) in
    (λ k. front k ++ b ++ back k) ∙ sym (laid-through a m b z)

-- ---- one step
-- the step on registers that are cut at its register
pub step-laid : (e : List ℕ → List ℕ) (n t : ℕ) (a m r z : List ℕ) → IsCut (register n t) a m r
    → wrap_step e n t (laid a m r z) ≡ laid (add_bytes (take 8 (e (a ++ r))) (to_be_bytes w64 t)) m (drop 8 (e (a ++ r))) z
step-laid e n t a m r z h =
    let i : ℕ = register n t in
    let joined : block 8 (laid a m r z) 0 ++ block 8 (laid a m r z) i ≡ a ++ r = λ k. block-first i a m r z h k ++ block-one i a m r z h k in
    ap (λ j. with_register (with_register (laid a m r z) i (drop 8 (e j))) 0 (add_bytes (take 8 (e j)) (to_be_bytes w64 t))) joined
    ∙ ap (λ s. with_register s 0 (add_bytes (take 8 (e (a ++ r))) (to_be_bytes w64 t))) (with-one i a m r z (drop 8 (e (a ++ r))) h)
    ∙ with-first a m (drop 8 (e (a ++ r))) z (add_bytes (take 8 (e (a ++ r))) (to_be_bytes w64 t)) h.first

-- a block is enciphered to a block
abbrev pub KeepsBlocks : (List ℕ → List ℕ) → Type 0
KeepsBlocks e = (x : List ℕ) → IsBlock 16 x → IsBlock 16 (e x)

bytes-cons : (x : ℕ) (xs : List ℕ) → x < 256 → IsBytes xs → IsBytes (x ∷ xs)
bytes-cons x xs h hs zero = h
bytes-cons x xs h hs (suc i) = hs i

IsBlock-nil : IsBlock 0 []
IsBlock-nil = record { size = refl; bytes = λ i. lit< tt }

IsBlock-cons : (v x : ℕ) (xs : List ℕ) → x < 256 → IsBlock v xs → IsBlock (suc v) (x ∷ xs)
IsBlock-cons v x xs h hs = record {
  size = ap suc hs.size;
  bytes = bytes-cons x xs h hs.bytes;
}

-- the number of a step is eight bytes
pub IsBlock-number : (t : ℕ) → IsBlock 8 (to_be_bytes w64 t)
IsBlock-number t =
    let low = λ (n : ℕ). mod_below n 256 (lit< tt) in
    IsBlock-cons 7 _ _ (low _) (IsBlock-cons 6 _ _ (low _) (IsBlock-cons 5 _ _ (low _) (IsBlock-cons 4 _ _ (low _)
    (IsBlock-cons 3 _ _ (low _) (IsBlock-cons 2 _ _ (low _) (IsBlock-cons 1 _ _ (low _) (IsBlock-cons 0 _ _ (low _) IsBlock-nil)))))))

IsBlock-take : (s : List ℕ) → IsBlock 16 s → IsBlock 8 (take 8 s)
IsBlock-take s h = record { size = length-take-le 8 s (omega (arith, h.size)); bytes = IsBytes-take 8 s h.bytes }

IsBlock-drop : (s : List ℕ) → IsBlock 16 s → IsBlock 8 (drop 8 s)
IsBlock-drop s h = record { size = length-drop 8 s ∙ omega (arith, h.size); bytes = IsBytes-drop 8 s h.bytes }

IsBlock-join : (v w : ℕ) (xs ys : List ℕ) → IsBlock v xs → IsBlock w ys → IsBlock (v + w) (xs ++ ys)
IsBlock-join v w xs ys hx hy = record { size = length-append xs ys ∙ omega (arith, hx.size, hy.size); bytes = IsBytes-append xs ys hx.bytes hy.bytes }

pub register-pos : (n t : ℕ) → 0 < register n t
register-pos n t = omega arith

pub register-fits : (n t m : ℕ) → 0 < n → 8 * n + 8 ≤ m → 8 * register n t + 8 ≤ m
register-fits n t m pos fits = omega (arith, mod_below (t - 1) n pos)

-- registers that are cut, with A and register i as blocks
pub record IsLaid (i size : ℕ) (s a m r z : List ℕ) : Type 0 where
  pub whole : s ≡ laid a m r z
  pub cut : IsCut i a m r
  pub first : IsBlock 8 a
  pub between : IsBytes m
  pub one : IsBlock 8 r
  pub rest : IsBytes z
  pub total : length z + (8 * i + 8) ≡ size

pub IsLaid-split : (i size : ℕ) (s : List ℕ) → 0 < i → 8 * i + 8 ≤ size → IsBlock size s → IsLaid i size s (take 8 s) (take (8 * i - 8) (drop 8 s)) (block 8 s i) (drop (8 * i + 8) s)
IsLaid-split i size s pos fits h =
    let long : 8 * i + 8 ≤ length s = omega (arith, h.size) in
    let split = laid-split s i pos long in
    record {
      whole = split.0;
      cut = split.1;
      first = record { size = split.1.first; bytes = IsBytes-take 8 s h.bytes };
      between = IsBytes-take (8 * i - 8) (drop 8 s) (IsBytes-drop 8 s h.bytes);
      one = IsBlock-block 8 s i long h.bytes;
      rest = IsBytes-drop (8 * i + 8) s h.bytes;
      total = omega (arith, length-drop (8 * i + 8) s, h.size);
    }

length-laid : (i : ℕ) (a m r z : List ℕ) → IsCut i a m r → length (laid a m r z) ≡ length z + (8 * i + 8)
length-laid i a m r z h = ap length (laid-through a m r z) ∙ length-append ((a ++ m) ++ r) z ∙ omega (arith, length-through i a m r h)

IsBlock-laid : (i size : ℕ) (a m r z : List ℕ) → IsBlock 8 a → length m + 8 ≡ 8 * i → IsBytes m → IsBlock 8 r → IsBytes z → length z + (8 * i + 8) ≡ size → IsBlock size (laid a m r z)
IsBlock-laid i size a m r z ha lm hm hr hz total = record {
  size = length-laid i a m r z (record { first = ha.size; between = lm; one = hr.size }) ∙ total;
  bytes = IsBytes-append a (m ++ (r ++ z)) ha.bytes (IsBytes-append m (r ++ z) hm (IsBytes-append r z hr.bytes hz));
}

-- what the cipher makes of the joined registers
IsBlock-made : (e : List ℕ → List ℕ) (a r : List ℕ) → KeepsBlocks e → IsBlock 8 a → IsBlock 8 r → IsBlock 16 (e (a ++ r))
IsBlock-made e a r keeps ha hr = keeps (a ++ r) (IsBlock-join 8 8 a r ha hr)

-- a step keeps bytes bytes, and their number
pub IsBlock-step : (e : List ℕ → List ℕ) (n t size : ℕ) (s : List ℕ) → KeepsBlocks e → 0 < n → 8 * n + 8 ≤ size → IsBlock size s → IsBlock size (wrap_step e n t s)
IsBlock-step e n t size s keeps pos fits h =
    let i : ℕ = register n t in
    let cut = IsLaid-split i size s (register-pos n t) (register-fits n t size pos fits) h in
    let a : List ℕ = take 8 s in
    let m : List ℕ = take (8 * i - 8) (drop 8 s) in
    let r : List ℕ = block 8 s i in
    let z : List ℕ = drop (8 * i + 8) s in
    let made : IsBlock 16 (e (a ++ r)) = IsBlock-made e a r keeps cut.first cut.one in
    let after : IsBlock size (laid (add_bytes (take 8 (e (a ++ r))) (to_be_bytes w64 t)) m (drop 8 (e (a ++ r))) z) =
    IsBlock-laid i size _ m _ z (IsBlock-xor 8 _ _ (IsBlock-take _ made) (IsBlock-number t)) cut.cut.between cut.between (IsBlock-drop _ made) cut.rest cut.total in
    let same : wrap_step e n t s ≡ laid (add_bytes (take 8 (e (a ++ r))) (to_be_bytes w64 t)) m (drop 8 (e (a ++ r))) z =
    ap (wrap_step e n t) cut.whole ∙ step-laid e n t a m r z cut.cut in
    let P : List ℕ → Type 0 = IsBlock size in
    subst P (sym same) after

-- the code's step
pub step-made : (e : List ℕ → List ℕ) (n t : ℕ) (s j b x m r q : List ℕ) → length b ≡ 16 → length x ≡ 8 → j ≡ block 8 s 0 ++ block 8 s (register n t) → b ≡ e j
    → r ≡ with_register s (register n t) (take 8 (drop 8 b)) → x ≡ add_bytes (take 8 b) m → m ≡ to_be_bytes w64 t → q ≡ with_register r 0 (take 8 (x ++ drop 8 b)) → q ≡ wrap_step e n t s
step-made e n t s j b x m r q hb hx ej eb er ex em eq =
    let i : ℕ = register n t in
    let made : b ≡ e (block 8 s 0 ++ block 8 s i) = eb ∙ ap e ej in
    let low : take 8 (drop 8 b) ≡ drop 8 b = take_all 8 (drop 8 b) (omega (arith, length-drop 8 b)) in
    let high : take 8 (x ++ drop 8 b) ≡ add_bytes (take 8 b) (to_be_bytes w64 t) = take_at x (drop 8 b) 8 hx ∙ ex ∙ ap (add_bytes (take 8 b)) em in
    eq ∙ (λ k. with_register ((er ∙ ap (with_register s i) low) k) 0 (high k))
    ∙ (λ k. with_register (with_register s i (drop 8 (made k))) 0 (add_bytes (take 8 (made k)) (to_be_bytes w64 t)))

-- ---- one step undone
-- the code's undoing of a step: d is deciphered from A less the step's number, and register i
pub record IsUndone (e : List ℕ → List ℕ) (n t : ℕ) (s d q : List ℕ) : Type 0 where
  pub made : e d ≡ add_bytes (block 8 s 0) (to_be_bytes w64 t) ++ block 8 s (register n t)
  pub size : length d ≡ 16
  pub after : q ≡ with_register (with_register s (register n t) (drop 8 d)) 0 (take 8 d)

-- what it leaves
undone-laid : (e : List ℕ → List ℕ) (n t : ℕ) (s d q a m r z : List ℕ) → IsUndone e n t s d q → s ≡ laid a m r z → IsCut (register n t) a m r
    → (q ≡ laid (take 8 d) m (drop 8 d) z) × (e d ≡ add_bytes a (to_be_bytes w64 t) ++ r)
undone-laid e n t s d q a m r z h es cut =
    let i : ℕ = register n t in (
      h.after ∙ ap (λ l. with_register (with_register l i (drop 8 d)) 0 (take 8 d)) es
          ∙ ap (λ l. with_register l 0 (take 8 d)) (with-one i a m r z (drop 8 d) cut) ∙ with-first a m (drop 8 d) z (take 8 d) cut.first,
      h.made ∙ (λ k. add_bytes ((ap (λ l. block 8 l 0) es ∙ block-first i a m r z cut) k) (to_be_bytes w64 t) ++ (ap (λ l. block 8 l i) es ∙ block-one i a m r z cut) k),
    )

pub step-back : (e : List ℕ → List ℕ) (n t : ℕ) (s d q : List ℕ) → 0 < n → 8 * n + 8 ≤ length s → IsUndone e n t s d q → wrap_step e n t q ≡ s
step-back e n t s d q pos fits h =
    let i : ℕ = register n t in
    let number : List ℕ = to_be_bytes w64 t in
    let split = laid-split s i (register-pos n t) (register-fits n t (length s) pos fits) in
    let a : List ℕ = take 8 s in
    let m : List ℕ = take (8 * i - 8) (drop 8 s) in
    let r : List ℕ = block 8 s i in
    let z : List ℕ = drop (8 * i + 8) s in
    let left = undone-laid e n t s d q a m r z h split.0 split.1 in
    let cut : IsCut i (take 8 d) m (drop 8 d) = record {
      first = length-take-le 8 d (omega (arith, h.size));
      between = split.1.between;
      one = length-drop 8 d ∙ omega (arith, h.size);
    } in
    let eight : length (add_bytes a number) ≡ 8 = length-xor a number split.1.first ∙ split.1.first in
    let joined : e (take 8 d ++ drop 8 d) ≡ add_bytes a number ++ r = ap e (take-append-drop 8 d) ∙ left.1 in
    let high : add_bytes (take 8 (e (take 8 d ++ drop 8 d))) number ≡ a =
    ap (λ b. add_bytes (take 8 b) number) joined ∙ ap (λ l. add_bytes l number) (take_at (add_bytes a number) r 8 eight) ∙ xor_twice a number split.1.first in
    let low : drop 8 (e (take 8 d ++ drop 8 d)) ≡ r = ap (drop 8) joined ∙ drop_at (add_bytes a number) r 8 eight in
    ap (wrap_step e n t) left.0 ∙ step-laid e n t (take 8 d) m (drop 8 d) z cut ∙ (λ k. laid (high k) m (low k) z) ∙ sym split.0

-- registers from which the step gives s are those that it is undone to, where d is the one block that is enciphered so
pub step-alone : (e : List ℕ → List ℕ) (n t : ℕ) (s d q x : List ℕ) → KeepsBlocks e → 0 < n → 8 * n + 8 ≤ length s → IsUndone e n t s d q
    → ((y : List ℕ) → IsBlock 16 y → e y ≡ e d → y ≡ d) → IsBlock (length s) x → wrap_step e n t x ≡ s → x ≡ q
step-alone e n t s d q x keeps pos fits h alone block_x ex =
    let i : ℕ = register n t in
    let number : List ℕ = to_be_bytes w64 t in
    let cut = IsLaid-split i (length s) x (register-pos n t) (register-fits n t (length s) pos fits) block_x in
    let a : List ℕ = take 8 x in
    let m : List ℕ = take (8 * i - 8) (drop 8 x) in
    let r : List ℕ = block 8 x i in
    let z : List ℕ = drop (8 * i + 8) x in
    let b : List ℕ = e (a ++ r) in
    let made : IsBlock 16 b = IsBlock-made e a r keeps cut.first cut.one in
    let top : IsBlock 8 (take 8 b) = IsBlock-take b made in
    let bottom : IsBlock 8 (drop 8 b) = IsBlock-drop b made in
    let whole : s ≡ laid (add_bytes (take 8 b) number) m (drop 8 b) z = sym ex ∙ ap (wrap_step e n t) cut.whole ∙ step-laid e n t a m r z cut.cut in
    let sizes : IsCut i (add_bytes (take 8 b) number) m (drop 8 b) = record {
      first = length-xor (take 8 b) number top.size ∙ top.size;
      between = cut.cut.between;
      one = bottom.size;
    } in
    let left = undone-laid e n t s d q (add_bytes (take 8 b) number) m (drop 8 b) z h whole sizes in
    let same : e d ≡ b = left.1 ∙ ap (λ l. l ++ drop 8 b) (xor_twice (take 8 b) number top.size) ∙ take-append-drop 8 b in
    let found : a ++ r ≡ d = alone (a ++ r) (IsBlock-join 8 8 a r cut.first cut.one) (sym same) in
    let high : a ≡ take 8 d = sym (take_at a r 8 cut.first.size) ∙ ap (take 8) found in
    let low : r ≡ drop 8 d = sym (drop_at a r 8 cut.first.size) ∙ ap (drop 8) found in
    cut.whole ∙ (λ k. laid (high k) m (low k) z) ∙ sym left.0

-- the code's undoing is that of the step
pub undone-made : (e : List ℕ → List ℕ) (n t : ℕ) (s j x m d r q : List ℕ) → 8 * register n t + 8 ≤ length s → length d ≡ 16 → j ≡ block 8 s 0 ++ block 8 s (register n t) → x ≡ add_bytes (take 8 j) m → m ≡ to_be_bytes w64 t
    → e d ≡ x ++ drop 8 j → r ≡ with_register s (register n t) (take 8 (drop 8 d)) → q ≡ with_register r 0 (take 8 d) → IsUndone e n t s d q
undone-made e n t s j x m d r q fits hd ej ex em ed er eq =
    let i : ℕ = register n t in
    let a_size : length (block 8 s 0) ≡ 8 = length-block 8 s 0 (omega arith) in
    let high : take 8 j ≡ block 8 s 0 = ap (take 8) ej ∙ take_at (block 8 s 0) (block 8 s i) 8 a_size in
    let low : drop 8 j ≡ block 8 s i = ap (drop 8) ej ∙ drop_at (block 8 s 0) (block 8 s i) 8 a_size in
    let rest : take 8 (drop 8 d) ≡ drop 8 d = take_all 8 (drop 8 d) (omega (arith, length-drop 8 d)) in
    record {
      made = ed ∙ (λ k. (ex ∙ (λ l. add_bytes (high l) (em l))) k ++ low k);
      size = hd;
      after = eq ∙ ap (λ l. with_register l 0 (take 8 d)) (er ∙ ap (with_register s i) rest);
    }
