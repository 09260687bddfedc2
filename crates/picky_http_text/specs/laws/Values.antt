-- A text has one list of pieces, a key one raw value, a value one text without its quotes, and a text one number.
use Rattle.std.proofs.Common.{◌≡◌, ◌≢◌, ℕ, zero, suc, List, [], ◌∷◌, ◌++◌, refl, sym, ◌∙◌, ap, subst, append_assoc, replicate, Option, Some, None}
use Rattle.std.specs.List.{concat, AllByRecursion}
use Rattle.std.specs.Str.{trim}
use Rattle.std.proofs.lemmas.List.{append_cancel_left}
use Rattle.picky_contract.specs.laws.Cuts.{first-once}
use Rattle.picky_http_text.specs.laws.Pieces.{joins-same, all-inside}
use Rattle.picky_http_text.specs.Clean.{IsClean, IsValue}
use Rattle.picky_http_text.specs.Items.{scheme, ArePieces, IsItem, IsNoItemOf, IsLast, IsRaw}

words_same : (w : List ℕ) (n m : ℕ) (r s : List ℕ) → ((more : List ℕ) → r ≢ w ++ more) → ((more : List ℕ) → s ≢ w ++ more)
    → concat (replicate n w) ++ r ≡ concat (replicate m w) ++ s → r ≡ s
words_same w zero zero r s h k e = e
words_same w zero (suc m) r s h k e = absurd (h (concat (replicate m w) ++ s) (e ∙ append_assoc w (concat (replicate m w)) s))
words_same w (suc n) zero r s h k e = absurd (k (concat (replicate n w) ++ r) (sym e ∙ append_assoc w (concat (replicate n w)) r))
words_same w (suc n) (suc m) r s h k e =
    words_same w n m r s h k (append_cancel_left w (concat (replicate n w) ++ r) (concat (replicate m w) ++ s)
    (sym (append_assoc w (concat (replicate n w)) r) ∙ e ∙ append_assoc w (concat (replicate m w)) s))

pub pieces_same : (text : List ℕ) (ps qs : List (List ℕ)) → ArePieces text ps → ArePieces text qs → ps ≡ qs
pieces_same text ps qs a b =
    let rest = words_same scheme a.behind.0 b.behind.0 a.rest b.rest a.no_scheme b.no_scheme (sym a.behind.1 ∙ b.behind.1) in
    joins-same 44 ps qs a.some b.some a.no_comma b.no_comma (sym a.joined ∙ rest ∙ b.joined)

item_same : (piece key v w : List ℕ) → IsItem piece key v → IsItem piece key w → v ≡ w
item_same piece key v w a b =
    let r = first-once 61 a.before a.after b.before b.after (sym a.split ∙ b.split) a.no_equals b.no_equals in
    a.value_is ∙ ap trim r.1 ∙ sym b.value_is

head_is : {X : Type 0} (x y : X) (xs ys : List X) → x ∷ xs ≡ y ∷ ys → x ≡ y
head_is x y xs ys e = cc

tail_is : {X : Type 0} (x y : X) (xs ys : List X) → x ∷ xs ≡ y ∷ ys → xs ≡ ys
tail_is x y xs ys e = cc

somes_same : (key : List ℕ) (f g : List (List ℕ)) (p q : List ℕ) (b c : List (List ℕ)) (v w : List ℕ) → f ++ p ∷ b ≡ g ++ q ∷ c
    → IsItem p key v → IsItem q key w → AllByRecursion (IsNoItemOf key) b → AllByRecursion (IsNoItemOf key) c → v ≡ w
somes_same key [] [] p q b c v w e i j l m =
    let same = head_is p q b c e in
    item_same q key v w (subst (λ x. IsItem x key v) same i) j
somes_same key [] (y ∷ g) p q b c v w e i j l m =
    let rest = tail_is p y b (g ++ q ∷ c) e in
    absurd (all-inside (IsNoItemOf key) g c q (subst (AllByRecursion (IsNoItemOf key)) rest l) w j)
somes_same key (x ∷ f) [] p q b c v w e i j l m =
    let rest = tail_is x q (f ++ p ∷ b) c e in
    absurd (all-inside (IsNoItemOf key) f b p (subst (AllByRecursion (IsNoItemOf key)) (sym rest) m) v i)
somes_same key (x ∷ f) (y ∷ g) p q b c v w e i j l m = somes_same key f g p q b c v w (tail_is x y (f ++ p ∷ b) (g ++ q ∷ c) e) i j l m

last_same : (key : List ℕ) (ps : List (List ℕ)) (v w : Option (List ℕ)) → IsLast key ps v → IsLast key ps w → v ≡ w
last_same key ps None None h k = refl
last_same key ps None (Some w) h (g, q, c, e, j, m) = absurd (all-inside (IsNoItemOf key) g c q (subst (AllByRecursion (IsNoItemOf key)) e h) w j)
last_same key ps (Some v) None (f, p, b, e, i, l) k = absurd (all-inside (IsNoItemOf key) f b p (subst (AllByRecursion (IsNoItemOf key)) e k) v i)
last_same key ps (Some v) (Some w) (f, p, b, e, i, l) (g, q, c, d, j, m) = ap Some (somes_same key f g p q b c v w (sym e ∙ d) i j l m)

pub raw_same : (text key : List ℕ) (v w : Option (List ℕ)) → IsRaw text key v → IsRaw text key w → v ≡ w
raw_same text key v w (ps, a, h) (qs, b, k) = last_same key qs v w (subst (λ xs. IsLast key xs v) (pieces_same text ps qs a b) h) k

-- ---- without quotes

abbrev AreQuotes : List ℕ → Type 0
AreQuotes bytes = AllByRecursion (λ (b : ℕ). b ≡ 34) bytes

quotes_then : (n : ℕ) (xs : List ℕ) → AreQuotes xs → AreQuotes (replicate n 34 ++ xs)
quotes_then zero xs h = h
quotes_then (suc n) xs h = (refl, quotes_then n xs h)

quotes_only : (n : ℕ) → AreQuotes (replicate n 34)
quotes_only zero = tt
quotes_only (suc n) = (refl, quotes_only n)

ends_in_quote : (b : ℕ) (bs back : List ℕ) → AreQuotes (b ∷ (bs ++ back)) → (more : List ℕ) × (b ∷ bs ≡ more ++ 34 ∷ [])
ends_in_quote b [] back h = ([], ap (λ x. x ∷ []) h.0)
ends_in_quote b (c ∷ cs) back h = let (more, e) = ends_in_quote c cs back h.1 in (b ∷ more, ap (λ (t : List ℕ). b ∷ t) e)

abbrev NoQuoteLast : List ℕ → Type 0
NoQuoteLast inner = (more : List ℕ) → inner ≢ more ++ 34 ∷ []

back_same : (x y : List ℕ) (a b : ℕ) → NoQuoteLast x → NoQuoteLast y → x ++ replicate a 34 ≡ y ++ replicate b 34 → x ≡ y
back_same [] [] a b k l e = refl
back_same [] (c ∷ ys) a b k l e =
    let (more, is) = ends_in_quote c ys (replicate b 34) (subst AreQuotes e (quotes_only a)) in
    absurd (l more is)
back_same (c ∷ xs) [] a b k l e =
    let (more, is) = ends_in_quote c xs (replicate a 34) (subst AreQuotes (sym e) (quotes_only b)) in
    absurd (k more is)
back_same (c ∷ xs) (d ∷ ys) a b k l e =
    let rest : xs ≡ ys = back_same xs ys a b (λ more f. k (c ∷ more) (ap (λ (t : List ℕ). c ∷ t) f)) (λ more f. l (d ∷ more) (ap (λ (t : List ℕ). d ∷ t) f))
    (tail_is c d (xs ++ replicate a 34) (ys ++ replicate b 34) e) in
    let first : c ≡ d = head_is c d (xs ++ replicate a 34) (ys ++ replicate b 34) e in
    cc

front_same : (n m c d : ℕ) (xs ys : List ℕ) → c ≢ 34 → d ≢ 34 → replicate n 34 ++ c ∷ xs ≡ replicate m 34 ++ d ∷ ys → c ∷ xs ≡ d ∷ ys
front_same zero zero c d xs ys h k e = e
front_same zero (suc m) c d xs ys h k e = absurd (h (head_is c 34 xs (replicate m 34 ++ d ∷ ys) e))
front_same (suc n) zero c d xs ys h k e = absurd (k (sym (head_is 34 d (replicate n 34 ++ c ∷ xs) ys e)))
front_same (suc n) (suc m) c d xs ys h k e = front_same n m c d xs ys h k (tail_is 34 34 (replicate n 34 ++ c ∷ xs) (replicate m 34 ++ d ∷ ys) e)

not_all : (n a m : ℕ) (c : ℕ) (xs : List ℕ) → c ≢ 34 → replicate n 34 ++ replicate a 34 ≡ replicate m 34 ++ c ∷ xs → ⊥
not_all n a m c xs ne e =
    ne (all-inside (λ (z : ℕ). z ≡ 34) (replicate m 34) xs c (subst AreQuotes e (quotes_then n (replicate a 34) (quotes_only a))))

inner_same : (x y : List ℕ) (n a m b : ℕ) → ((more : List ℕ) → x ≢ 34 ∷ more) → ((more : List ℕ) → y ≢ 34 ∷ more) → NoQuoteLast x → NoQuoteLast y
    → replicate n 34 ++ (x ++ replicate a 34) ≡ replicate m 34 ++ (y ++ replicate b 34) → x ≡ y
inner_same [] [] n a m b f g k l e = refl
inner_same [] (d ∷ ys) n a m b f g k l e = absurd (not_all n a m d (ys ++ replicate b 34) (λ z. g ys (ap (λ x. x ∷ ys) z)) e)
inner_same (c ∷ xs) [] n a m b f g k l e = absurd (not_all m b n c (xs ++ replicate a 34) (λ z. f xs (ap (λ x. x ∷ xs) z)) (sym e))
inner_same (c ∷ xs) (d ∷ ys) n a m b f g k l e =
    back_same (c ∷ xs) (d ∷ ys) a b k l
    (front_same n m c d (xs ++ replicate a 34) (ys ++ replicate b 34) (λ z. f xs (ap (λ x. x ∷ xs) z)) (λ z. g ys (ap (λ x. x ∷ ys) z)) e)

pub clean_same : (value x y : List ℕ) → IsClean value x → IsClean value y → x ≡ y
clean_same value x y (i, u, e) (j, v, f) =
    e ∙ ap trim (inner_same i j u.before u.after v.before v.after u.no_quote_first v.no_quote_first u.no_quote_last v.no_quote_last (sym u.cut ∙ v.cut)) ∙ sym f

some_same : {X : Type 0} (x y : X) → Some x ≡ Some y → x ≡ y
some_same x y e = cc

none_is_some : {X : Type 0} (x : X) → None ≡ Some x → ⊥
none_is_some x e = cc

-- a text has one value of a key
pub value_same : (text key v w : List ℕ) → IsValue text key v → IsValue text key w → v ≡ w
value_same text key v w (r, a, c) (s, b, d) =
    let same : r ≡ s = some_same r s (raw_same text key (Some r) (Some s) a b) in
    clean_same s v w (subst (λ (z : List ℕ). IsClean z v) same c) d

-- where it has none, it has no value
pub value_none : (text key v : List ℕ) → IsRaw text key None → IsValue text key v → ⊥
value_none text key v none (r, a, c) = none_is_some r (raw_same text key None (Some r) none a)
