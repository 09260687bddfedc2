-- Values one after another, part of the way through.
use Rattle.std.proofs.Common.{◌≡◌, ◌≢◌, ℕ, zero, suc, ◌+◌, ◌-◌, ◌<◌, ◌≤◌, List, [], ◌∷◌, ◌++◌, length, take, get_or, Result, Ok, Err, refl, sym, ap, subst, ◌∙◌, append_assoc, arith, inl, inr}
use Rattle.std.specs.Prelude.{map}
use Rattle.std.proofs.lemmas.List.{append-nil, length-append, take_more, map-append}
use Rattle.picky_der.specs.declared.fault.DerError.{DerError}
use Rattle.picky_der.specs.Reading.{◌>>=◌}
use Rattle.picky_asn1_wrapper.specs.Lists.{SpellsAll, SomeRefused, items_at}

-- the values so far, and those that reading gives
abbrev pub after : {X : Type 0} → List X → Result (List X) DerError → Result (List X) DerError
after xs read = read >>= λ ys. Ok (xs ++ ys)

pub after-nil : {X : Type 0} (read : Result (List X) DerError) → after [] read ≡ read
after-nil (Ok ys) = refl
after-nil (Err e) = refl

after-cons : {X : Type 0} (xs : List X) (x : X) (read : Result (List X) DerError) → after xs (read >>= λ ys. Ok (x ∷ ys)) ≡ after (xs ++ x ∷ []) read
after-cons xs x (Ok ys) = ap (λ (zs : List _). Ok zs) (sym (append_assoc xs (x ∷ []) ys))
after-cons xs x (Err e) = refl

module _ {X : Type 0} (read : List ℕ → Result (X × List ℕ) DerError) (xs : List X) (whole : Result (List X) DerError) where
  goes_on : (most : ℕ) (left : List ℕ) (x : X) (rest : List ℕ) → left ≢ [] → 0 < most → read left ≡ Ok (x, rest) → after xs (items_at read most left) ≡ whole → after (xs ++ x ∷ []) (items_at read (most - 1) rest) ≡ whole
  goes_on most [] x rest some more e so-far = absurd (some refl)
  goes_on zero (b ∷ bs) x rest some more e so-far = absurd (omega arith)
  goes_on (suc most) (b ∷ bs) x rest some more e so-far =
      let back : suc most - 1 ≡ most = omega arith in
      rw back (sym (after-cons xs x (items_at read most rest)) ∙ (rw e at so-far))

  -- a value that fails
  pub stops : (most : ℕ) (left : List ℕ) (e : DerError) → left ≢ [] → 0 < most → read left ≡ Err e → after xs (items_at read most left) ≡ whole → whole ≡ Err e
  stops most [] f some more e so-far = absurd (some refl)
  stops zero (b ∷ bs) f some more e so-far = absurd (omega arith)
  stops (suc most) (b ∷ bs) f some more e so-far = sym (rw e at so-far)

  -- no more
  pub ends : (most : ℕ) (left : List ℕ) → left ≡ [] → after xs (items_at read most left) ≡ whole → whole ≡ Ok xs
  ends most [] none so-far = sym so-far ∙ ap (λ (zs : List X). Ok zs) (append-nil xs)
  ends most (b ∷ bs) none so-far = absurd cc

-- where bytes are left, more values may be read
pub room_left : (left : List ℕ) (k n : ℕ) → left ≢ [] → length left + k ≤ n → 0 < n - k
room_left [] k n some h = absurd (some refl)
room_left (b ∷ bs) k n some h = omega arith

-- one value more
pub one_more : {X : Type 0} (read : List ℕ → Result (X × List ℕ) DerError) (xs now : List X) (x : X) (n : ℕ) (left rest : List ℕ) (whole : Result (List X) DerError) → left ≢ [] → read left ≡ Ok (x, rest) → length rest < length left → now ≡ xs ++ x ∷ [] → length left + length xs ≤ n → after xs (items_at read (n - length xs) left) ≡ whole → (after now (items_at read (n - length now) rest) ≡ whole) × (length rest + length now ≤ n)
one_more read xs now x n left rest whole some e shorter now-is room so-far =
    let len : length now ≡ length xs + 1 = omega (arith, length-append xs (x ∷ []), ap length now-is) in
    let fuel : n - length now ≡ n - length xs - 1 = omega arith in
    (rw (fuel, now-is) (goes_on read xs whole (n - length xs) left x rest some (room_left left (length xs) n some room) e so-far), omega arith)

-- ---- writing

SpellsAll-push : {X : Type 0} (Spells : List ℕ → X → Type 0) (xs : List X) (x : X) (s one : List ℕ) → SpellsAll Spells s xs → Spells one x → SpellsAll Spells (s ++ one) (xs ++ x ∷ [])
SpellsAll-push Spells [] x s one p q = (one, [], rw p (sym (append-nil one)), q, refl)
SpellsAll-push Spells (y ∷ ys) x s one p q =
    (p.0, p.1 ++ one, rw p.2 (append_assoc p.0 p.1 one), p.3, SpellsAll-push Spells ys x p.1 one p.4 q)

-- one value more is written
pub SpellsAll-next : {V X : Type 0} (view : V → X) (Spells : List ℕ → X → Type 0) (xs : List V) (i : ℕ) (x : V) (s one now : List ℕ) → i < length xs → x ≡ get_or xs i x → SpellsAll Spells s (map view (take i xs)) → Spells one (view x) → now ≡ s ++ one → SpellsAll Spells now (map view (take (i + 1) xs))
SpellsAll-next view Spells xs i x s one now lt e p q n =
    let more : take (i + 1) xs ≡ take i xs ++ x ∷ [] = take_more xs i x lt ∙ ap (λ (y : _). take i xs ++ y ∷ []) (sym e) in
    rw (n, more, map-append) (SpellsAll-push Spells (map view (take i xs)) (view x) s one p q)

-- the value at a place is refused
pub SomeRefused-at : {V X : Type 0} (view : V → X) (Refused : X → Type 0) (xs : List V) (i : ℕ) (x : V) → i < length xs → x ≡ get_or xs i x → Refused (view x) → SomeRefused Refused (map view xs)
SomeRefused-at view Refused [] i x lt e r = absurd (omega arith)
SomeRefused-at view Refused (y ∷ ys) zero x lt e r = inl (subst (λ (z : _). Refused (view z)) e r)
SomeRefused-at view Refused (y ∷ ys) (suc i) x lt e r = inr (SomeRefused-at view Refused ys i x (omega arith) e r)

-- ---- copies

-- one copy more means the same
pub map-next : {X M : Type 0} (meaning : X → M) (xs ys now : List X) (i : ℕ) (x y : X) → i < length xs → x ≡ get_or xs i x → map meaning ys ≡ map meaning (take i xs) → meaning y ≡ meaning x → now ≡ ys ++ y ∷ [] → map meaning now ≡ map meaning (take (i + 1) xs)
map-next {M = M} meaning xs ys now i x y lt e p q n =
    let more : take (i + 1) xs ≡ take i xs ++ x ∷ [] = take_more xs i x lt ∙ ap (λ (y : _). take i xs ++ y ∷ []) (sym e) in
    rw (n, more, map-append, map-append, p, q) refl

pub map-push : {V X : Type 0} (view : V → X) (xs now : List V) (x : V) → now ≡ xs ++ x ∷ [] → map view now ≡ map view xs ++ view x ∷ []
map-push view xs now x n = rw (n, map-append) refl
