-- The contents octets of a number at least zero are decoded.
use Rattle.std.proofs.Common.{◌≡◌, ℕ, zero, suc, ◌+◌, ◌*◌, ◌/◌, ◌%◌, ◌^◌, ◌<◌, ◌≤◌, true, false, cond, ltb, leb, List, [], ◌∷◌, ◌++◌, length, Ok, Err, refl, sym, ap, subst, ◌∙◌, arith, inl, inr}
use Rattle.std.specs.Prelude.{◌||◌, slice_index}
use Rattle.std.proofs.Math.Nat.{pow-suc}
use Rattle.std.proofs.lemmas.Bool.{cases_lt, ne_eqb, ltb-false, ltb-true, le-ltb, lt-ltb, leb-false, lt-leb}
use Rattle.std.proofs.lemmas.List.{length-append}
use Rattle.picky_asn1_bits.specs.Integer.{unsigned_of}
use Rattle.picky_der.specs.declared.fault.DerError.TheVariants.{BadValue}
use Rattle.picky_der.specs.Form.{Readable, Writable, Tagged}
use Rattle.picky_der.specs.Primitive.{Decodes, primitive_form}
use Rattle.picky_der.specs.Length.{IsBytes}
use Rattle.picky_der.specs.Natural.{IsNatural, redundant, octets_within, natural_octets, natural_of, natural_contents}
use Rattle.picky_der.specs.laws.Steps.{guard_ok, need_ok, or_false, ok_is}
use Rattle.picky_der.specs.laws.Lengths.{number_after, unsigned_of-after, IsBytes-rest, IsBytes-cons, IsBytes-front, IsBytes-both}
use Rattle.picky_der.specs.laws.Primitives.{primitive_readable, primitive_writable, primitive_tagged}

-- ---- a number grows with its octets

pub number_after-at_least : (high : ℕ) (bs : List ℕ) → high ≤ number_after high bs
number_after-at_least high [] = omega arith
number_after-at_least high (b ∷ bs) = omega (arith, number_after-at_least (high * 256 + b) bs)

pub number_after-append : (high : ℕ) (bs cs : List ℕ) → number_after high (bs ++ cs) ≡ number_after (number_after high bs) cs
number_after-append high [] cs = refl
number_after-append high (b ∷ bs) cs = number_after-append (high * 256 + b) bs cs

pub unsigned_of-push : (bs : List ℕ) (b : ℕ) → unsigned_of (bs ++ b ∷ []) ≡ unsigned_of bs * 256 + b
unsigned_of-push bs b =
    sym (unsigned_of-after (bs ++ b ∷ [])) ∙ number_after-append 0 bs (b ∷ []) ∙ ap (λ (n : ℕ). n * 256 + b) (unsigned_of-after bs)

-- ---- one octet more

natural_one : (b : ℕ) → b < 128 → IsNatural (b ∷ []) b
natural_one b lt = record {
  are_bytes = IsBytes-cons b [] (omega arith) (λ i. omega arith);
  some = omega arith;
  sign = lt;
  fewest = λ h _. absurd (omega arith);
  number = omega arith;
}

-- the first octet of two or more
first-push : (c : List ℕ) (b : ℕ) → 1 ≤ length c → slice_index (c ++ b ∷ []) 0 ≡ slice_index c 0
first-push [] b h = absurd (omega arith)
first-push (x ∷ c) b h = refl

fewest-push : (c : List ℕ) (b n : ℕ) → IsNatural c n → 128 ≤ n * 256 + b → slice_index (c ++ b ∷ []) 0 ≡ 0 → 128 ≤ slice_index (c ++ b ∷ []) 1
fewest-push [] b n p big z = absurd (let s = p.some in omega arith)
fewest-push (x ∷ []) b n p big z = let e = p.number in omega arith
fewest-push (x ∷ y ∷ c) b n p big z = p.fewest (omega arith) z

pub IsNatural-push : (c : List ℕ) (b n : ℕ) → IsNatural c n → b < 256 → 128 ≤ n * 256 + b → IsNatural (c ++ b ∷ []) (n * 256 + b)
IsNatural-push c b n p lt big = record {
  are_bytes = IsBytes-both c (b ∷ []) p.are_bytes (IsBytes-cons b [] lt (λ i. omega arith));
  some = omega (arith, length-append c (b ∷ []));
  sign = rw (first-push c b p.some) p.sign;
  fewest = λ _ z. fewest-push c b n p big z;
  number = unsigned_of-push c b ∙ ap (λ (m : ℕ). m * 256 + b) p.number;
}

-- the octets of a number stand for it
within-natural : (most n : ℕ) → n < 128 * 256 ^ most → IsNatural (octets_within most n) n
within-natural zero n lt = natural_one n (omega arith)
within-natural (suc most) n lt = elim (cases_lt n 128) [
  | inl small ↦ rw (lt-ltb n 128 small) (natural_one n small)
  | inr big ↦
      let parts : n / 256 * 256 + n % 256 ≡ n = omega arith in
      let few : n / 256 < 128 * 256 ^ most = let p : 256 ^ suc most ≡ 256 ^ most * 256 = pow-suc 256 most in omega arith in
      let front = within-natural most (n / 256) few in
      rw (le-ltb n 128 big) (subst (IsNatural (octets_within most (n / 256) ++ n % 256 ∷ [])) parts (IsNatural-push (octets_within most (n / 256)) (n % 256) (n / 256) front (omega arith) (omega arith)))
]

natural-octets : (limit n : ℕ) → limit ≤ 2 ^ 128 → n < limit → IsNatural (natural_octets n) n
natural-octets limit n le lt = within-natural 16 n (omega arith)

-- ---- a number has one list of octets

-- the last octet and those before it
front : ℕ → List ℕ → List ℕ
front x [] = []
front x (y ∷ ys) = x ∷ front y ys

last : ℕ → List ℕ → ℕ
last x [] = x
last x (y ∷ ys) = last y ys

front-last : (x : ℕ) (xs : List ℕ) → x ∷ xs ≡ front x xs ++ last x xs ∷ []
unfolding front last
front-last x [] = refl
front-last x (y ∷ ys) = ap (λ (t : List ℕ). x ∷ t) (front-last y ys)

length-front : (x : ℕ) (xs : List ℕ) → length (front x xs) ≡ length xs
unfolding front
length-front x [] = refl
length-front x (y ∷ ys) = omega (arith, length-front y ys)

last-byte : (x : ℕ) (xs : List ℕ) → IsBytes (x ∷ xs) → last x xs < 256
unfolding last
last-byte x [] h = h zero
last-byte x (y ∷ ys) h = last-byte y ys (IsBytes-rest x (y ∷ ys) h)

-- two octets or more stand for 128 or more
two-octets : (x y : ℕ) (ys : List ℕ) (n : ℕ) → IsNatural (x ∷ y ∷ ys) n → 128 ≤ n
two-octets x y ys n p =
    let e : number_after ((0 * 256 + x) * 256 + y) ys ≡ n = unsigned_of-after (x ∷ y ∷ ys) ∙ p.number in
    let least : (0 * 256 + x) * 256 + y ≤ number_after ((0 * 256 + x) * 256 + y) ys = number_after-at_least ((0 * 256 + x) * 256 + y) ys in
    elim (cases_lt 0 x) [
      | inl some ↦ omega arith
      | inr none ↦ let h = p.fewest (omega arith) (omega arith) in omega arith
    ]

fewest-front : (x y : ℕ) (ys : List ℕ) (n : ℕ) → IsNatural (x ∷ y ∷ ys) n → 1 < length (front x (y ∷ ys)) → slice_index (front x (y ∷ ys)) 0 ≡ 0 → 128 ≤ slice_index (front x (y ∷ ys)) 1
unfolding front
fewest-front x y [] n p h z = absurd (omega arith)
fewest-front x y (w ∷ ws) n p h z = p.fewest (omega arith) z

sign-front : (x y : ℕ) (ys : List ℕ) (n : ℕ) → IsNatural (x ∷ y ∷ ys) n → slice_index (front x (y ∷ ys)) 0 < 128
unfolding front
sign-front x y ys n p = p.sign

front-natural : (x y : ℕ) (ys : List ℕ) (n : ℕ) → IsNatural (x ∷ y ∷ ys) n → IsNatural (front x (y ∷ ys)) (unsigned_of (front x (y ∷ ys)))
front-natural x y ys n p =
    let parts = front-last x (y ∷ ys) in
    record {
      are_bytes = IsBytes-front (front x (y ∷ ys)) (last x (y ∷ ys) ∷ []) (subst IsBytes parts p.are_bytes);
      some = omega (arith, length-front x (y ∷ ys));
      sign = sign-front x y ys n p;
      fewest = fewest-front x y ys n p;
      number = refl;
    }

split-number : (x y : ℕ) (ys : List ℕ) (n : ℕ) → IsNatural (x ∷ y ∷ ys) n → unsigned_of (front x (y ∷ ys)) * 256 + last x (y ∷ ys) ≡ n
split-number x y ys n p = sym (unsigned_of-push (front x (y ∷ ys)) (last x (y ∷ ys))) ∙ ap unsigned_of (sym (front-last x (y ∷ ys))) ∙ p.number

one-octet : (x : ℕ) (n : ℕ) → IsNatural (x ∷ []) n → x ≡ n
one-octet x n p = let e = p.number in omega arith

one-within : (k : ℕ) (c d : List ℕ) (n : ℕ) → length c ≤ k → IsNatural c n → IsNatural d n → c ≡ d
one-within k [] d n le p q = absurd (let s = p.some in omega arith)
one-within k c [] n le p q = absurd (let s = q.some in omega arith)
one-within k (x ∷ []) (u ∷ []) n le p q = ap (λ (t : ℕ). t ∷ []) (one-octet x n p ∙ sym (one-octet u n q))
one-within k (x ∷ []) (u ∷ v ∷ vs) n le p q = absurd (let a = one-octet x n p in let s = p.sign in let b = two-octets u v vs n q in omega arith)
one-within k (x ∷ y ∷ ys) (u ∷ []) n le p q = absurd (let a = one-octet u n q in let s = q.sign in let b = two-octets x y ys n p in omega arith)
one-within zero (x ∷ y ∷ ys) (u ∷ v ∷ vs) n le p q = absurd (omega arith)
one-within (suc k) (x ∷ y ∷ ys) (u ∷ v ∷ vs) n le p q =
    let a = split-number x y ys n p in
    let b = split-number u v vs n q in
    let la = last-byte x (y ∷ ys) p.are_bytes in
    let lb = last-byte u (v ∷ vs) q.are_bytes in
    let same : unsigned_of (front u (v ∷ vs)) ≡ unsigned_of (front x (y ∷ ys)) = omega arith in
    let lasts : last x (y ∷ ys) ≡ last u (v ∷ vs) = omega arith in
    let shorter : length (front x (y ∷ ys)) ≤ k = omega (arith, length-front x (y ∷ ys)) in
    let fronts = one-within k (front x (y ∷ ys)) (front u (v ∷ vs)) (unsigned_of (front x (y ∷ ys))) shorter (front-natural x y ys n p) (subst (IsNatural (front u (v ∷ vs))) same (front-natural u v vs n q)) in
    front-last x (y ∷ ys) ∙ ap (λ (t : List ℕ). t ++ last x (y ∷ ys) ∷ []) fronts ∙ ap (λ (t : ℕ). front u (v ∷ vs) ++ t ∷ []) lasts ∙ sym (front-last u (v ∷ vs))

natural-one : (c d : List ℕ) (n : ℕ) → IsNatural c n → IsNatural d n → c ≡ d
natural-one c d n p q = one-within (length c) c d n (omega arith) p q

-- ---- decoding

not-redundant : (b : ℕ) (bs : List ℕ) → redundant b bs ≡ false → 1 < length (b ∷ bs) → b ≡ 0 → 128 ≤ slice_index (b ∷ bs) 1
not-redundant b [] e h z = absurd (omega arith)
not-redundant b (c ∷ cs) e h z = ltb-false c 128 (rw z at e)

natural_done : (limit : ℕ) (octets : List ℕ) (n : ℕ) → IsBytes octets → natural_of limit octets ≡ Ok n → (n < limit) × IsNatural octets n
natural_done limit [] n fits e = absurd cc
natural_done limit (b ∷ bs) n fits e =
    let m = unsigned_of (b ∷ bs) in
    let a = guard_ok (leb 128 b || redundant b bs) BadValue (cond (ltb m limit) (Ok m) (Err BadValue)) n e in
    let k = need_ok (ltb m limit) BadValue (Ok m) n a.1 in
    let tests = or_false (leb 128 b) (redundant b bs) a.0 in
    let same : m ≡ n = ok_is m n k.1 in (
      subst (λ (t : ℕ). t < limit) same (ltb-true m limit k.0),
      record { are_bytes = fits; some = omega arith; sign = leb-false 128 b tests.0; fewest = not-redundant b bs tests.1; number = same },
    )

is-fewest : (b : ℕ) (bs : List ℕ) → (1 < length (b ∷ bs) → b ≡ 0 → 128 ≤ slice_index (b ∷ bs) 1) → redundant b bs ≡ false
is-fewest b [] h = refl
is-fewest b (c ∷ cs) h =
    elim (cases_lt 0 b) [
      | inl some ↦ rw (ne_eqb b 0 (λ (z : b ≡ 0). absurd (omega arith))) refl
      | inr none ↦ let z : b ≡ 0 = omega arith in rw (z, le-ltb c 128 (h (omega arith) z)) refl
    ]

natural_back : (limit : ℕ) (octets : List ℕ) (n : ℕ) → n < limit → IsNatural octets n → natural_of limit octets ≡ Ok n
natural_back limit [] n lt p = absurd (let s = p.some in omega arith)
natural_back limit (b ∷ bs) n lt p =
    let sign : leb 128 b ≡ false = lt-leb 128 b p.sign in
    let few : redundant b bs ≡ false = is-fewest b bs p.fewest in
    let test : ltb (unsigned_of (b ∷ bs)) limit ≡ true = rw p.number (lt-ltb n limit lt) in
    rw (sign, few, test) (ap (λ (t : ℕ). Ok t) p.number)

natural_decodes : (limit : ℕ) → limit ≤ 2 ^ 128 → Decodes (natural_contents limit)
natural_decodes limit le = record {
  takes = natural_done limit;
  again = natural_back limit;
  has_octets = λ n lt. natural-octets limit n le lt;
  one = λ s t n _ p q. natural-one s t n p q;
}

pub natural_readable : (limit : ℕ) → limit ≤ 2 ^ 128 → Readable (primitive_form (record { 0 = 2 }) (natural_contents limit))
natural_readable limit le = primitive_readable (record { 0 = 2 }) (natural_contents limit) (natural_decodes limit le)

pub natural_writable : (limit : ℕ) → limit ≤ 2 ^ 128 → Writable (primitive_form (record { 0 = 2 }) (natural_contents limit))
natural_writable limit le = primitive_writable (record { 0 = 2 }) (natural_contents limit) (natural_decodes limit le) (λ h. absurd (omega arith))

pub natural_tagged : (limit : ℕ) → Tagged (record { 0 = 2 }) (primitive_form (record { 0 = 2 }) (natural_contents limit))
natural_tagged limit = primitive_tagged (record { 0 = 2 }) (natural_contents limit)

-- ---- the loop over the octets

-- a number that is too great before its last octet is too great
pub number-overflows : (high : ℕ) (bs : List ℕ) → 2 ^ 120 ≤ high → 0 < length bs → 2 ^ 128 ≤ number_after high bs
number-overflows high [] big some = absurd (omega arith)
number-overflows high (b ∷ bs) big some = omega (arith, number_after-at_least (high * 256 + b) bs)

-- ---- the octets that are written

pub natural_start : (old now : List ℕ) (n : ℕ) → old ≡ [] → n < 128 → now ≡ old ++ n ∷ [] → IsNatural now n
natural_start old now n none lt e =
    let same : now ≡ n ∷ [] = rw none at e in
    rw same (natural_one n lt)

pub natural_next : (old now : List ℕ) (n : ℕ) → IsNatural old (n / 256) → 128 ≤ n → now ≡ old ++ n % 256 ∷ [] → IsNatural now n
natural_next old now n p big e =
    let parts : n / 256 * 256 + n % 256 ≡ n = omega arith in
    rw e (subst (IsNatural (old ++ n % 256 ∷ [])) parts (IsNatural-push old (n % 256) (n / 256) p (omega arith) (omega arith)))
