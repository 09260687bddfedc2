-- A signing string determines its lines, and a line its part and answer.
use Rattle.std.proofs.Common.{◌≡◌, ◌≢◌, ℕ, ◌<◌, ◌≤◌, Bool, true, false, IsTrue, List, [], ◌∷◌, ◌++◌, map, length, refl, sym, ◌∙◌, ap, arith, get_or, rules, lit≤, append_assoc}
use Rattle.std.proofs.lemmas.List.{map-append}
use Rattle.std.specs.Prelude.{◌==◌, not, ◌&&◌}
use Rattle.std.proofs.lemmas.Bool.{false≢true, eqb-false, not-true}
use Rattle.std.specs.List.{join_with_byte, AllByRecursion}
use Rattle.std.specs.Fmt.{decimal}
use Rattle.std.specs.Str.Parse.{AllDigits}
use Rattle.std.proofs.lemmas.Fmt.{decimal_is_IsNumeral}
use Rattle.std.specs.Char.{digit_value}
use Rattle.std.proofs.lemmas.List.Elements.{All-from_recursion, recursion_from_All}
use Rattle.picky_contract.specs.Text.{Lacks}
use Rattle.picky_contract.specs.laws.Cuts.{first-once}
use Rattle.picky_http_text.specs.laws.Pieces.{joins-same}
use Rattle.picky_http.specs.Signing.{Part, Named, Target, Created, Expires, part_text, line_text, Line, signing_string, is_name_byte, IsLowerToken, IsPlain}

-- the bytes hold no c, byte by byte
abbrev Without : ℕ → List ℕ → Type 0
Without c bytes = AllByRecursion (λ (b : ℕ). b ≢ c) bytes

without_lacks : (c : ℕ) (bytes : List ℕ) → Without c bytes → Lacks c bytes
without_lacks c bytes h = All-from_recursion (λ (b : ℕ). b ≢ c) bytes h

lacks_without : (c : ℕ) (bytes : List ℕ) → Lacks c bytes → Without c bytes
lacks_without c bytes h = recursion_from_All (λ (b : ℕ). b ≢ c) bytes h

without_append : (c : ℕ) (xs ys : List ℕ) → Without c xs → Without c ys → Without c (xs ++ ys)
without_append c [] ys l m = m
without_append c (x ∷ xs) ys l m = (l.0, without_append c xs ys l.1 m)

cons_head : (x y : ℕ) (xs ys : List ℕ) → x ∷ xs ≡ y ∷ ys → x ≡ y
cons_head x y xs ys e = cc

cons_tail : (x y : ℕ) (xs ys : List ℕ) → x ∷ xs ≡ y ∷ ys → xs ≡ ys
cons_tail x y xs ys e = cc

-- the bytes after the colon
lead : List ℕ → List ℕ
lead [] = []
lead (b ∷ bs) = 32 ∷ b ∷ bs

lead_same : (a b : List ℕ) → lead a ≡ lead b → a ≡ b
unfolding lead
lead_same [] [] e = refl
lead_same [] (y ∷ ys) e = cc
lead_same (x ∷ xs) [] e = cc
lead_same (x ∷ xs) (y ∷ ys) e = cons_tail 32 32 (x ∷ xs) (y ∷ ys) e

line_is : (p : Part) (a : List ℕ) → line_text p a ≡ part_text p ++ 58 ∷ lead a
unfolding lead
line_is p [] = refl
line_is p (b ∷ bs) = refl

-- a test that computes, for the bytes of a literal
abbrev lacks_test : ℕ → List ℕ → Bool
lacks_test c [] = true
lacks_test c (b ∷ bs) = not (b == c) && lacks_test c bs

both_are : (s t : Bool) → (s && t) ≡ true → (s ≡ true) × (t ≡ true)
both_are true t h = (refl, h)
both_are false t h = absurd (false≢true h)

differs : (b c : ℕ) → not (b == c) ≡ true → b ≢ c
differs b c h = eqb-false b c (not-true (b == c) h)

lacks_from_test : (c : ℕ) (bs : List ℕ) → lacks_test c bs ≡ true → Without c bs
lacks_from_test c [] h = tt
lacks_from_test c (b ∷ bs) h =
    let r = both_are (not (b == c)) (lacks_test c bs) h in
    (differs b c r.0, lacks_from_test c bs r.1)

-- a name byte is none of LF, space, colon and bracket
name_byte_is_not : (b c : ℕ) → IsTrue (is_name_byte b) → is_name_byte c ≡ false → b ≢ c
name_byte_is_not b c h k e = false≢true (sym k ∙ rw (← e) h)

name_lacks : (c : ℕ) (bs : List ℕ) → is_name_byte c ≡ false → AllByRecursion (λ b. IsTrue (is_name_byte b)) bs → Without c bs
name_lacks c [] k h = tt
name_lacks c (b ∷ bs) k h = (name_byte_is_not b c h.0 k, name_lacks c bs k h.1)

part_lacks : (p : Part) (a : List ℕ) (c : ℕ) → IsPlain (p, a) → is_name_byte c ≡ false → lacks_test c (part_text Target) ≡ true → lacks_test c (part_text Created) ≡ true → lacks_test c (part_text Expires) ≡ true → Without c (part_text p)
part_lacks (Named name) a c h k t u v = name_lacks c name k h.0.1
part_lacks Target a c h k t u v = lacks_from_test c (part_text Target) t
part_lacks Created a c h k t u v = lacks_from_test c (part_text Created) u
part_lacks Expires a c h k t u v = lacks_from_test c (part_text Expires) v

-- no name begins with a bracket
not_special : (name more : List ℕ) → IsLowerToken name → name ≡ 40 ∷ more → ⊥
unfolding is_name_byte
not_special [] more h e = omega (arith, h.0)
not_special (b ∷ bs) more h e = name_byte_is_not b 40 h.1.0 refl (cons_head b 40 bs more e)

at_second : (xs ys : List ℕ) → xs ≡ ys → get_or xs 1 0 ≡ get_or ys 1 0
at_second xs ys e = ap (λ (l : List ℕ). get_or l 1 0) e

part_same : (p q : Part) (a b : List ℕ) → IsPlain (p, a) → IsPlain (q, b) → part_text p ≡ part_text q → p ≡ q
part_same (Named m) (Named n) a b h k e = ap Named e
part_same (Named m) Target a b h k e = absurd (not_special m _ h.0 e)
part_same (Named m) Created a b h k e = absurd (not_special m _ h.0 e)
part_same (Named m) Expires a b h k e = absurd (not_special m _ h.0 e)
part_same Target (Named n) a b h k e = absurd (not_special n _ k.0 (sym e))
part_same Created (Named n) a b h k e = absurd (not_special n _ k.0 (sym e))
part_same Expires (Named n) a b h k e = absurd (not_special n _ k.0 (sym e))
part_same Target Target a b h k e = refl
part_same Target Created a b h k e = absurd (omega (arith, at_second _ _ e))
part_same Target Expires a b h k e = absurd (omega (arith, at_second _ _ e))
part_same Created Target a b h k e = absurd (omega (arith, at_second _ _ e))
part_same Created Created a b h k e = refl
part_same Created Expires a b h k e = absurd (omega (arith, at_second _ _ e))
part_same Expires Target a b h k e = absurd (omega (arith, at_second _ _ e))
part_same Expires Created a b h k e = absurd (omega (arith, at_second _ _ e))
part_same Expires Expires a b h k e = refl

-- one line determines its part and its answer
pub line_same : (p q : Part) (a b : List ℕ) → IsPlain (p, a) → IsPlain (q, b) → line_text p a ≡ line_text q b → (p ≡ q) × (a ≡ b)
unfolding is_name_byte
line_same p q a b h k e =
    let r = first-once 58 (part_text p) (lead a) (part_text q) (lead b) (sym (line_is p a) ∙ e ∙ line_is q b)
    (without_lacks 58 (part_text p) (part_lacks p a 58 h refl refl refl refl)) (without_lacks 58 (part_text q) (part_lacks q b 58 k refl refl refl refl)) in
    (part_same p q a b h k r.0, lead_same a b r.1)

digits_lack : (c : ℕ) (ds : List ℕ) → 10 ≤ digit_value c → AllDigits 10 ds → Without c ds
digits_lack c [] k h = tt
digits_lack c (d ∷ ds) k h =
    let low : digit_value d < 10 = h.0 in
    let not_it : d ≢ c = λ e. let lower : digit_value c < 10 = (rw e at low) in omega arith in
    (not_it, digits_lack c ds k h.1)

answer_lacks : (p : Part) (a : List ℕ) → IsPlain (p, a) → Without 10 a
answer_lacks (Named name) a h = lacks_without 10 a h.1
answer_lacks Target a (m, t, e, _, ml, tl) = rw e (without_append 10 m (32 ∷ t) (lacks_without 10 m ml) (omega arith, lacks_without 10 t tl))
answer_lacks Created a (n, small, e) = rw e (digits_lack 10 (decimal n) (lit≤ tt) (decimal_is_IsNumeral n small).0.1)
answer_lacks Expires a (n, small, e) = rw e (digits_lack 10 (decimal n) (lit≤ tt) (decimal_is_IsNumeral n small).0.1)

lead_lacks : (a : List ℕ) → Without 10 a → Without 10 (lead a)
unfolding lead
lead_lacks [] h = tt
lead_lacks (b ∷ bs) h = (omega arith, h)

line_lacks : (p : Part) (a : List ℕ) → IsPlain (p, a) → Without 10 (line_text p a)
unfolding is_name_byte
line_lacks p a h =
    rw (line_is p a) (without_append 10 (part_text p) (58 ∷ lead a) (part_lacks p a 10 h refl refl refl refl) (omega arith, lead_lacks a (answer_lacks p a h)))

texts : List Line → List (List ℕ)
texts ls = map (λ l. line_text l.0 l.1) ls

texts_lack : (ls : List Line) → AllByRecursion IsPlain ls → AllByRecursion (Lacks 10) (texts ls)
unfolding texts
texts_lack [] h = tt
texts_lack (l ∷ ls) h = (without_lacks 10 (line_text l.0 l.1) (line_lacks l.0 l.1 h.0), texts_lack ls h.1)

line_cons : (x y : List ℕ) (xs ys : List (List ℕ)) → x ∷ xs ≡ y ∷ ys → (x ≡ y) × (xs ≡ ys)
line_cons x y xs ys e = (cc, cc)

pair_same : (l m : Line) → l.0 ≡ m.0 → l.1 ≡ m.1 → l ≡ m
pair_same (p, a) (q, b) e f = cc

texts_same : (ls ms : List Line) → AllByRecursion IsPlain ls → AllByRecursion IsPlain ms → texts ls ≡ texts ms → ls ≡ ms
unfolding texts
texts_same [] [] h k e = refl
texts_same [] (m ∷ ms) h k e = cc
texts_same (l ∷ ls) [] h k e = cc
texts_same (l ∷ ls) (m ∷ ms) h k e =
    let c = line_cons (line_text l.0 l.1) (line_text m.0 m.1) (texts ls) (texts ms) e in
    let r = line_same l.0 m.0 l.1 m.1 h.0 k.0 c.0 in
    let same : l ≡ m = pair_same l m r.0 r.1 in
    let same_rest : ls ≡ ms = texts_same ls ms h.1 k.1 c.1 in
    cc

texts_some : (ls : List Line) → 0 < length ls → 0 < length (texts ls)
unfolding texts
texts_some [] h = h
texts_some (l ∷ ls) h = omega arith

-- equal signing strings have equal lines
pub signing_string_same : (ls ms : List Line) → 0 < length ls → 0 < length ms → AllByRecursion IsPlain ls → AllByRecursion IsPlain ms → signing_string ls ≡ signing_string ms → ls ≡ ms
unfolding texts
signing_string_same ls ms some_l some_m h k e =
    texts_same ls ms h k (joins-same 10 (texts ls) (texts ms) (texts_some ls some_l) (texts_some ms some_m) (texts_lack ls h) (texts_lack ms k) e)

join_push : (c : ℕ) (xs : List (List ℕ)) (x : List ℕ) → 0 < length xs → join_with_byte c (xs ++ x ∷ []) ≡ (join_with_byte c xs ++ c ∷ []) ++ x
join_push c [] x h = absurd (omega arith)
join_push c (y ∷ []) x h = sym (append_assoc y (c ∷ []) x)
join_push c (y ∷ z ∷ zs) x h =
    let more : join_with_byte c (z ∷ zs ++ x ∷ []) ≡ (join_with_byte c (z ∷ zs) ++ c ∷ []) ++ x = join_push c (z ∷ zs) x (omega arith) in
    ap (λ (t : List ℕ). y ++ c ∷ t) more ∙ search (rules, append_assoc)

texts_push : (ls : List Line) (l : Line) → texts (ls ++ l ∷ []) ≡ texts ls ++ line_text l.0 l.1 ∷ []
unfolding texts
texts_push ls l = map-append (λ (m : Line). line_text m.0 m.1) ls (l ∷ [])

pub signing_string_push : (ls : List Line) (l : Line) → 0 < length ls → signing_string (ls ++ l ∷ []) ≡ (signing_string ls ++ 10 ∷ []) ++ line_text l.0 l.1
unfolding texts
signing_string_push ls l h = ap (join_with_byte 10) (texts_push ls l) ∙ join_push 10 (texts ls) (line_text l.0 l.1) (texts_some ls h)
