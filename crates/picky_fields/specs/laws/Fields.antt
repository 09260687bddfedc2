-- The laws of runs of fields, and of the values around them.
use Rattle.std.proofs.Common.{◌≡◌, ◌≢◌, ℕ, ◌+◌, ◌%◌, ◌^◌, ◌<◌, Bool, true, false, eqb, ◌⊎◌, List, [], ◌∷◌, ◌++◌, length, Ok, Err, refl, sym, ap, subst, ◌∙◌, append_assoc, arith, inl, inr}
use Rattle.std.specs.Prelude.{◌||◌}
use Rattle.std.proofs.lemmas.Bool.{eqb-true}
use Rattle.std.proofs.lemmas.List.{append-nil, append_cancel_left, length-append}
use Rattle.picky_asn1_tag.specs.declared.tag.Tag.{Tag}
use Rattle.picky_der.specs.declared.fault.DerError.TheVariants.{Truncated}
use Rattle.picky_der.specs.Length.{IsBytes, TailIsBytes, value_of}
use Rattle.picky_der.specs.Reading.{◌>>=◌, within, nested_at, end_at}
use Rattle.picky_der.specs.Form.{Form, Readable, Writable, Tagged, IsValue, BeginsBy, Takes}
use Rattle.picky_der.specs.laws.Depth.{within_none}
use Rattle.picky_der.specs.laws.Steps.{or_false, good, ok_is, bind_ok, pair_fst, pair_snd}
use Rattle.picky_der.specs.laws.Lengths.{IsBytes-after, TailIsBytes-of}
use Rattle.picky_der.specs.laws.Headers.{IsValue-same, IsValue-of, length-value_of, IsBytes-contents, BeginsBy-value, nested_takes, nested_shorter, end_takes, end_again, eqb_same}
use Rattle.picky_der.specs.laws.Prefixes.{Stays, kept_fault, then_stays, nested_goes_on, nested_stays, nested_cut}
use Rattle.picky_fields.specs.Fields.{stands_next, Fields, nothing, one, then_at, ◌and◌, Apart, Sees, seen_at, seen, run_at, enclosed_at, enclosed, sequence, explicit}
use Rattle.picky_fields.specs.laws.Depths.{at_then, at_map, at_nested}

-- ---- what the laws say

-- a spelling has no bytes, or begins so
abbrev pub NoneOrBegins : (ℕ → Bool) → List ℕ → Type 0
NoneOrBegins test s = (s ≡ []) ⊎ BeginsBy test s

-- The laws of reading a run. What stands after a run isn't what it might still take.
pub record ReadableFields {X : Type 0} (f : Fields X) : Type 0 where
  -- one spelling stands in front of the bytes, and it has one value
  pub one_way : (x y : X) (s t a b : List ℕ) → f.in_form x → f.in_form y → f.Spells s x → f.Spells t y → stands_next f.takes_more a ≡ false → stands_next f.takes_more b ≡ false → s ++ a ≡ t ++ b → (s ≡ t) × (x ≡ y)
  -- what is read is what stands there, and reading ends just past it
  pub takes : (depth : ℕ) (bytes : List ℕ) (x : X) (rest : List ℕ) → IsBytes bytes → f.reading depth bytes ≡ Ok (x, rest) → Takes f.in_form f.Spells bytes x rest
  -- where a spelling stands, reading gives its value, and `TooDeep` exactly where depth and height exceed 256
  pub again : (depth : ℕ) (s rest : List ℕ) (x : X) → f.in_form x → (p : f.Spells s x) → stands_next f.takes_more rest ≡ false → f.reading depth (s ++ rest) ≡ within depth (f.height s x p) (x, rest)
  -- `begins` holds of the first byte of every spelling that has one
  pub first : (s : List ℕ) (x : X) → f.in_form x → f.Spells s x → NoneOrBegins f.begins s

-- The laws of writing a run.
pub record WritableFields {X : Type 0} (f : Fields X) : Type 0 where
  pub encodes : (s : List ℕ) (x : X) → f.in_form x → f.Encodes s x → f.Spells s x
  pub is_encoding : (s : List ℕ) (x : X) → f.Encodes s x → s ≡ f.encoding x
  pub has_encoding : (x : X) → f.in_form x → length (f.encoding x) < 2 ^ 64 → f.Encodes (f.encoding x) x
  pub not_refused : (s : List ℕ) (x : X) → f.Encodes s x → f.Refused x → ⊥
  pub accepted : (x : X) → f.in_form x → f.Refused x → ⊥

-- both kinds of laws, of a run and of a type
pub record LawfulFields {X : Type 0} (f : Fields X) : Type 0 where
  pub readable : ReadableFields f
  pub writable : WritableFields f

pub record Lawful {X : Type 0} (f : Form X) : Type 0 where
  pub readable : Readable f
  pub writable : Writable f

abbrev pair : {X Y : Type 0} → X → Y → X × Y
pair x y = (x, y)

-- ---- one field

module _ {X : Type 0} (f : Form X) (law : Readable f) where
  one_first : (s : List ℕ) (x : X) → f.in_form x → f.Spells s x → NoneOrBegins f.begins s
  one_first s x h p = inr (law.first s x h p)

  pub one_readable : ReadableFields (one f)
  one_readable = record {
    one_way = λ x y s t a b g h p q _ _ e. law.prefix_free x y s t a b g h p q e;
    takes = λ depth bytes x rest fits e. law.takes depth bytes x rest (TailIsBytes-of bytes fits) e;
    again = λ depth s rest x h p _. law.again depth s rest x h p;
    first = one_first;
  }

pub one_writable : {X : Type 0} (f : Form X) → Writable f → WritableFields (one f)
one_writable f law = record {
  encodes = law.encodes;
  is_encoding = law.is_encoding;
  has_encoding = law.has_encoding;
  not_refused = law.not_refused;
  accepted = law.accepted;
}

pub one_lawful : {X : Type 0} {f : Form X} → Lawful f → LawfulFields (one f)
one_lawful {f = f} law = record { readable = one_readable f law.readable; writable = one_writable f law.writable }

-- ---- no field

nothing_taken : (bytes : List ℕ) (x : Unit {0}) (rest : List ℕ) → ◌≡◌ {A = Unit {0} × List ℕ} (tt, bytes) (x, rest) → Takes nothing.in_form nothing.Spells bytes x rest
nothing_taken bytes x rest same =
    subst (λ (p : Unit {0} × List ℕ). Takes nothing.in_form nothing.Spells bytes p.0 p.1) same
    (record { formed = tt; spelling = []; spelled = refl; parts = refl })

pub nothing_lawful : LawfulFields nothing
nothing_lawful = record {
  readable = record {
    one_way = λ x y s t a b _ _ p q _ _ _. (p ∙ sym q, refl);
    takes = λ depth bytes x rest _ e. nothing_taken bytes x rest (ok_is (tt, bytes) (x, rest) e);
    again = λ depth s rest x _ p _. rw p (sym (within_none depth (tt, rest)));
    first = λ s x _ p. inl p;
  };
  writable = record {
    encodes = λ s x _ p. p;
    is_encoding = λ s x p. p;
    has_encoding = λ x _ _. refl;
    not_refused = λ s x p r. r;
    accepted = λ x _ r. r;
  };
}

-- ---- a run and then another

pub next_or : (t u : ℕ → Bool) (rest : List ℕ) → stands_next (λ b. t b || u b) rest ≡ false → (stands_next t rest ≡ false) × (stands_next u rest ≡ false)
next_or t u [] e = (refl, refl)
next_or t u (b ∷ bs) e = or_false (t b) (u b) e

pub or_left : (a b : Bool) → a ≡ true → (a || b) ≡ true
or_left true b e = refl
or_left false b e = absurd cc

pub or_right : (a b : Bool) → b ≡ true → (a || b) ≡ true
or_right true b e = refl
or_right false b e = e

parts_begin : (t u : ℕ → Bool) (front back s : List ℕ) → NoneOrBegins t front → NoneOrBegins u back → s ≡ front ++ back → NoneOrBegins (λ b. t b || u b) s
parts_begin t u [] [] s h k e = inl e
parts_begin t u [] (b ∷ bs) s h (inl k) e = absurd cc
parts_begin t u [] (b ∷ bs) s h (inr k) e = inr (rw e (or_right (t b) (u b) k))
parts_begin t u (b ∷ bs) back s (inl h) k e = absurd cc
parts_begin t u (b ∷ bs) back s (inr h) k e = inr (rw e (or_left (t b) (u b) h))

-- what doesn't begin the second run, and isn't taken more after it, isn't taken after the first
not_taken : (more begins : ℕ → Bool) → ((b : ℕ) → begins b ≡ true → more b ≡ false) → (s rest : List ℕ) → NoneOrBegins begins s → stands_next more rest ≡ false → stands_next more (s ++ rest) ≡ false
not_taken more begins apart [] rest h m = m
not_taken more begins apart (b ∷ bs) rest (inl e) m = absurd cc
not_taken more begins apart (b ∷ bs) rest (inr h) m = apart b h

pub regroup : (s front back rest : List ℕ) → s ≡ front ++ back → s ++ rest ≡ front ++ (back ++ rest)
regroup s front back rest e = ap (λ (r : List ℕ). r ++ rest) e ∙ append_assoc front back rest

module _ {X Y : Type 0} (f : Fields X) (g : Fields Y) (apart : Apart f g) (lf : ReadableFields f) (lg : ReadableFields g) where
  and_one_way : (x y : X × Y) (s t a b : List ℕ) → (f and g).in_form x → (f and g).in_form y → (f and g).Spells s x → (f and g).Spells t y → stands_next (f and g).takes_more a ≡ false → stands_next (f and g).takes_more b ≡ false → s ++ a ≡ t ++ b → (s ≡ t) × (x ≡ y)
  and_one_way x y s t a b h i p q m n e =
      let m2 = next_or f.takes_more g.takes_more a m in
      let n2 = next_or f.takes_more g.takes_more b n in
      let joined : p.front ++ (p.back ++ a) ≡ q.front ++ (q.back ++ b) = sym (regroup s p.front p.back a p.parts) ∙ e ∙ regroup t q.front q.back b q.parts in
      let after_p = not_taken f.takes_more g.begins apart p.back a (lg.first p.back x.1 h.1 p.is_second) m2.0 in
      let after_q = not_taken f.takes_more g.begins apart q.back b (lg.first q.back y.1 i.1 q.is_second) n2.0 in
      let k = lf.one_way x.0 y.0 p.front q.front (p.back ++ a) (q.back ++ b) h.0 i.0 p.is_first q.is_first after_p after_q joined in
      let later : p.back ++ a ≡ q.back ++ b = append_cancel_left p.front (p.back ++ a) (q.back ++ b) (joined ∙ ap (λ (r : List ℕ). r ++ (q.back ++ b)) (sym k.0)) in
      let l = lg.one_way x.1 y.1 p.back q.back a b h.1 i.1 p.is_second q.is_second m2.1 n2.1 later in (
        p.parts ∙ ap (λ (r : List ℕ). r ++ p.back) k.0 ∙ ap (λ (r : List ℕ). q.front ++ r) l.0 ∙ sym q.parts,
        ap (λ (z : X). pair z x.1) k.1 ∙ ap (λ (z : Y). pair y.0 z) l.1,
      )

  and_taken : (bytes middle r : List ℕ) (v : X) (w : Y) (x : X × Y) (rest : List ℕ) → Takes f.in_form f.Spells bytes v middle → Takes g.in_form g.Spells middle w r → ◌≡◌ {A = (X × Y) × List ℕ} ((v, w), r) (x, rest) → Takes (f and g).in_form (f and g).Spells bytes x rest
  and_taken bytes middle r v w x rest t u same =
      subst (λ (p : (X × Y) × List ℕ). Takes (f and g).in_form (f and g).Spells bytes p.0 p.1) same
      (record {
        formed = (t.formed, u.formed);
        spelling = t.spelling ++ u.spelling;
        spelled = record { front = t.spelling; is_first = t.spelled; back = u.spelling; is_second = u.spelled; parts = refl };
        parts = t.parts ∙ ap (λ (z : List ℕ). t.spelling ++ z) u.parts ∙ sym (append_assoc t.spelling u.spelling r);
      })

  and_takes : (depth : ℕ) (bytes : List ℕ) (x : X × Y) (rest : List ℕ) → IsBytes bytes → then_at f.reading g.reading depth bytes ≡ Ok (x, rest) → Takes (f and g).in_form (f and g).Spells bytes x rest
  and_takes depth bytes x rest fits e =
      let v = bind_ok (f.reading depth bytes) (λ v. g.reading depth v.1 >>= λ w. Ok ((v.0, w.0), w.1)) (x, rest) e in
      let w = bind_ok (g.reading depth v.0.1) (λ w. Ok ((v.0.0, w.0), w.1)) (x, rest) v.2 in
      let t = lf.takes depth bytes v.0.0 v.0.1 fits v.1 in
      let u = lg.takes depth v.0.1 w.0.0 w.0.1 (IsBytes-after t.spelling v.0.1 (subst IsBytes t.parts fits)) w.1 in
      and_taken bytes v.0.1 w.0.1 v.0.0 w.0.0 x rest t u (ok_is ((v.0.0, w.0.0), w.0.1) (x, rest) w.2)

  and_again : (depth : ℕ) (s rest : List ℕ) (x : X × Y) → (f and g).in_form x → (p : (f and g).Spells s x) → stands_next (f and g).takes_more rest ≡ false → then_at f.reading g.reading depth (s ++ rest) ≡ within depth ((f and g).height s x p) (x, rest)
  and_again depth s rest x h p m =
      let m2 = next_or f.takes_more g.takes_more rest m in
      let after = not_taken f.takes_more g.begins apart p.back rest (lg.first p.back x.1 h.1 p.is_second) m2.0 in
      let joined : s ++ rest ≡ p.front ++ (p.back ++ rest) = regroup s p.front p.back rest p.parts in
      let first = lf.again depth p.front (p.back ++ rest) x.0 h.0 p.is_first after in
      let second = lg.again depth p.back rest x.1 h.1 p.is_second m2.1 in
      rw joined (at_then depth _ _ _ (λ v. g.reading depth v.1 >>= λ w. Ok ((v.0, w.0), w.1)) (x.0, p.back ++ rest) (x, rest) first (at_map depth _ _ (λ w. Ok ((x.0, w.0), w.1)) (x.1, rest) (x, rest) second refl))

  and_readable : ReadableFields (f and g)
  and_readable = record {
    one_way = and_one_way;
    takes = and_takes;
    again = and_again;
    first = λ s x h p. parts_begin f.begins g.begins p.front p.back s (lf.first p.front x.0 h.0 p.is_first) (lg.first p.back x.1 h.1 p.is_second) p.parts;
  }

module _ {X Y : Type 0} (f : Fields X) (g : Fields Y) (lf : WritableFields f) (lg : WritableFields g) where
  and_has_encoding : (x : X × Y) → (f and g).in_form x → length (f.encoding x.0 ++ g.encoding x.1) < 2 ^ 64 → (f and g).Encodes (f.encoding x.0 ++ g.encoding x.1) x
  and_has_encoding x h fits =
      let both : length (f.encoding x.0 ++ g.encoding x.1) ≡ length (f.encoding x.0) + length (g.encoding x.1) = length-append (f.encoding x.0) (g.encoding x.1) in
      let in_front : length (f.encoding x.0) < 2 ^ 64 = omega arith in
      let behind : length (g.encoding x.1) < 2 ^ 64 = omega arith in
      record { front = f.encoding x.0; is_first = lf.has_encoding x.0 h.0 in_front; back = g.encoding x.1; is_second = lg.has_encoding x.1 h.1 behind; parts = refl }

  and_not_refused : (s : List ℕ) (x : X × Y) → (f and g).Encodes s x → f.Refused x.0 ⊎ g.Refused x.1 → ⊥
  and_not_refused s x p (inl r) = lf.not_refused p.front x.0 p.is_first r
  and_not_refused s x p (inr r) = lg.not_refused p.back x.1 p.is_second r

  and_accepted : (x : X × Y) → (f and g).in_form x → f.Refused x.0 ⊎ g.Refused x.1 → ⊥
  and_accepted x h (inl r) = lf.accepted x.0 h.0 r
  and_accepted x h (inr r) = lg.accepted x.1 h.1 r

  and_writable : WritableFields (f and g)
  and_writable = record {
    encodes = λ s x h p. record { front = p.front; is_first = lf.encodes p.front x.0 h.0 p.is_first; back = p.back; is_second = lg.encodes p.back x.1 h.1 p.is_second; parts = p.parts };
    is_encoding = λ s x p. p.parts ∙ ap (λ (r : List ℕ). r ++ p.back) (lf.is_encoding p.front x.0 p.is_first) ∙ ap (λ (r : List ℕ). f.encoding x.0 ++ r) (lg.is_encoding p.back x.1 p.is_second);
    has_encoding = and_has_encoding;
    not_refused = and_not_refused;
    accepted = and_accepted;
  }

pub and_lawful : {X Y : Type 0} {f : Fields X} {g : Fields Y} → Apart f g → LawfulFields f → LawfulFields g → LawfulFields (f and g)
and_lawful {f = f} {g = g} apart lf lg = record { readable = and_readable f g apart lf.readable lg.readable; writable = and_writable f g lf.writable lg.writable }

-- ---- a run seen as another type

module _ {X Y : Type 0} (to : X → Y) (from : Y → X) (f : Fields X) (sees : Sees f.in_form to from) (law : ReadableFields f) where
  abbrev view : Fields Y
  view = seen to from f

  seen_one_way : (x y : Y) (s t a b : List ℕ) → view.in_form x → view.in_form y → view.Spells s x → view.Spells t y → stands_next f.takes_more a ≡ false → stands_next f.takes_more b ≡ false → s ++ a ≡ t ++ b → (s ≡ t) × (x ≡ y)
  seen_one_way x y s t a b h i p q m n e =
      let k = law.one_way p.value q.value s t a b p.formed q.formed p.spelled q.spelled m n e in
      (k.0, sym p.means ∙ ap to k.1 ∙ q.means)

  seen_taken : (bytes r rest : List ℕ) (w : X) (y : Y) → Takes f.in_form f.Spells bytes w r → ◌≡◌ {A = Y × List ℕ} (to w, r) (y, rest) → Takes view.in_form view.Spells bytes y rest
  seen_taken bytes r rest w y t same =
      subst (λ (p : Y × List ℕ). Takes view.in_form view.Spells bytes p.0 p.1) same
      (record { formed = sees.formed w t.formed; spelling = t.spelling; spelled = record { value = w; formed = t.formed; spelled = t.spelled; means = refl }; parts = t.parts })

  seen_takes : (depth : ℕ) (bytes : List ℕ) (y : Y) (rest : List ℕ) → IsBytes bytes → seen_at to f.reading depth bytes ≡ Ok (y, rest) → Takes view.in_form view.Spells bytes y rest
  seen_takes depth bytes y rest fits e =
      let v = bind_ok (f.reading depth bytes) (λ x. Ok (to x.0, x.1)) (y, rest) e in
      seen_taken bytes v.0.1 rest v.0.0 y (law.takes depth bytes v.0.0 v.0.1 fits v.1) (ok_is (to v.0.0, v.0.1) (y, rest) v.2)

  seen_again : (depth : ℕ) (s rest : List ℕ) (y : Y) → view.in_form y → (p : view.Spells s y) → stands_next f.takes_more rest ≡ false → seen_at to f.reading depth (s ++ rest) ≡ within depth (view.height s y p) (y, rest)
  seen_again depth s rest y h p m =
      at_map depth _ _ (λ x. Ok (to x.0, x.1)) (p.value, rest) (y, rest) (law.again depth s rest p.value p.formed p.spelled m) (ap (λ (z : Y). Ok (z, rest)) p.means)

  seen_readable : ReadableFields view
  seen_readable = record { one_way = seen_one_way; takes = seen_takes; again = seen_again; first = λ s y h p. law.first s p.value p.formed p.spelled }

module _ {X Y : Type 0} (to : X → Y) (from : Y → X) (f : Fields X) (sees : Sees f.in_form to from) (law : WritableFields f) where
  seen_writable : WritableFields (seen to from f)
  seen_writable = record {
    encodes = λ s y h p. record { value = from y; formed = h; spelled = law.encodes s (from y) h p; means = sees.back y h };
    is_encoding = λ s y p. law.is_encoding s (from y) p;
    has_encoding = λ y h fits. law.has_encoding (from y) h fits;
    not_refused = λ s y p r. law.not_refused s (from y) p r;
    accepted = λ y h r. law.accepted (from y) h r;
  }

pub seen_lawful : {X Y : Type 0} {f : Fields X} {to : X → Y} {from : Y → X} → Sees f.in_form to from → LawfulFields f → LawfulFields (seen to from f)
seen_lawful {f = f} {to = to} {from = from} sees law = record { readable = seen_readable to from f sees law.readable; writable = seen_writable to from f sees law.writable }

-- the same type's values, seen one to one
pub one_to_one : {X Y : Type 0} {P : X → Type 0} {to : X → Y} {from : Y → X} → ((y : Y) → to (from y) ≡ y) → ((x : X) → from (to x) ≡ x) → Sees P to from
one_to_one {P = P} back forth = record { back = λ y _. back y; formed = λ x h. subst P (sym (forth x)) h }

-- ---- the value around a run

module _ {X : Type 0} (tag : Tag) (f : Fields X) (law : ReadableFields f) where
  pub run_takes : (depth : ℕ) (c : List ℕ) (x : X) → IsBytes c → run_at f.reading depth c ≡ Ok x → f.in_form x × f.Spells c x
  unfolding run_at
  run_takes depth c x fits e =
      let w = bind_ok (f.reading depth c) (λ x. end_at x.1 >>= λ _. Ok x.0) x e in
      let n = bind_ok (end_at w.0.1) (λ _. Ok w.0.0) x w.2 in
      let k = law.takes depth c w.0.0 w.0.1 fits w.1 in
      let same = ok_is w.0.0 x n.2 in
      let all : c ≡ k.spelling = k.parts ∙ ap (λ (t : List ℕ). k.spelling ++ t) (end_takes w.0.1 n.0 n.1) ∙ append-nil k.spelling in
      (subst f.in_form same k.formed, subst (λ (z : X). f.Spells c z) same (subst (λ (t : List ℕ). f.Spells t w.0.0) (sym all) k.spelled))

  enclosed_taken : (bytes c r rest : List ℕ) (x : X) → IsValue tag c (value_of tag.0 c) → bytes ≡ value_of tag.0 c ++ r → f.in_form x → f.Spells c x → r ≡ rest → Takes f.in_form (enclosed tag f).Spells bytes x rest
  enclosed_taken bytes c r rest x v parts formed spelled same =
      record { formed = formed; spelling = value_of tag.0 c; spelled = record { contents = c; fields = spelled; value = v }; parts = parts ∙ ap (λ (t : List ℕ). value_of tag.0 c ++ t) same }

  enclosed_takes : (depth : ℕ) (bytes : List ℕ) (x : X) (rest : List ℕ) → TailIsBytes bytes → enclosed_at tag f.reading depth bytes ≡ Ok (x, rest) → Takes f.in_form (enclosed tag f).Spells bytes x rest
  unfolding enclosed_at
  enclosed_takes depth bytes x rest fits e =
      let v = bind_ok (nested_at tag depth bytes) (λ v. run_at f.reading (depth + 1) v.0 >>= λ x. Ok (x, v.1)) (x, rest) e in
      let w = bind_ok (run_at f.reading (depth + 1) v.0.0) (λ x. Ok (x, v.0.1)) (x, rest) v.2 in
      let same = ok_is (w.0, v.0.1) (x, rest) w.2 in
      let t = nested_takes tag depth bytes v.0.0 v.0.1 fits v.1 in
      let k = run_takes (depth + 1) v.0.0 x (IsBytes-contents tag.0 v.0.0 v.0.1 (subst TailIsBytes t.1 fits)) (w.1 ∙ ap good (pair_fst _ _ same)) in
      enclosed_taken bytes v.0.0 v.0.1 rest x t.0 t.1 k.0 k.1 (pair_snd _ _ same)

  pub run_again : (depth : ℕ) (c : List ℕ) (x : X) → f.in_form x → (p : f.Spells c x) → run_at f.reading depth c ≡ within depth (f.height c x p) x
  unfolding run_at
  run_again depth c x h p =
      let alone : f.reading depth c ≡ within depth (f.height c x p) (x, []) = ap (f.reading depth) (sym (append-nil c)) ∙ law.again depth c [] x h p refl in
      at_map depth _ _ (λ x. end_at x.1 >>= λ _. Ok x.0) (x, []) x alone (rw end_again refl)

  enclosed_again : (depth : ℕ) (s rest : List ℕ) (x : X) → f.in_form x → (p : (enclosed tag f).Spells s x) → enclosed_at tag f.reading depth (s ++ rest) ≡ within depth ((enclosed tag f).height s x p) (x, rest)
  unfolding enclosed_at
  enclosed_again depth s rest x h p =
      let inner = at_map (depth + 1) _ _ (λ x. Ok (x, rest)) x (x, rest) (run_again (depth + 1) p.contents x h p.fields) refl in
      at_nested tag depth (f.height p.contents x p.fields) p.contents s rest (λ v. run_at f.reading (depth + 1) v.0 >>= λ x. Ok (x, v.1)) (x, rest) p.value inner

  enclosed_shorter : (depth : ℕ) (bytes : List ℕ) (x : X) (rest : List ℕ) → enclosed_at tag f.reading depth bytes ≡ Ok (x, rest) → length rest < length bytes
  unfolding enclosed_at
  enclosed_shorter depth bytes x rest e =
      let v = bind_ok (nested_at tag depth bytes) (λ v. run_at f.reading (depth + 1) v.0 >>= λ x. Ok (x, v.1)) (x, rest) e in
      let w = bind_ok (run_at f.reading (depth + 1) v.0.0) (λ x. Ok (x, v.0.1)) (x, rest) v.2 in
      omega (arith, nested_shorter tag depth bytes v.0.0 v.0.1 v.1, ap length (pair_snd _ _ (ok_is (w.0, v.0.1) (x, rest) w.2)))

  enclosed_cut : (depth : ℕ) (front back : List ℕ) (x : X) → f.in_form x → (enclosed tag f).Spells (front ++ back) x → back ≢ [] → enclosed_at tag f.reading depth front ≡ Err Truncated
  unfolding enclosed_at
  enclosed_cut depth front back x h p some = rw (nested_cut tag depth p.contents front back p.value some) refl

  enclosed_stays : (depth : ℕ) → Stays (enclosed_at tag f.reading depth)
  unfolding enclosed_at
  enclosed_stays depth =
      then_stays (nested_at tag depth) (λ v. run_at f.reading (depth + 1) v.0 >>= λ x. Ok (x, v.1)) (nested_goes_on tag depth) (nested_stays tag depth)
      (λ c rest other e h. kept_fault (run_at f.reading (depth + 1) c) (λ x. x) rest other e h)

  enclosed_prefix_free : (x y : X) (s t a b : List ℕ) → f.in_form x → f.in_form y → (enclosed tag f).Spells s x → (enclosed tag f).Spells t y → s ++ a ≡ t ++ b → (s ≡ t) × (x ≡ y)
  enclosed_prefix_free x y s t a b h i p q e =
      let k = IsValue-same tag p.contents q.contents s t a b p.value q.value e in
      (k.0, (law.one_way x y p.contents q.contents [] [] h i p.fields q.fields refl refl (ap (λ (c : List ℕ). c ++ []) k.1)).1)

  pub enclosed_readable : Readable (enclosed tag f)
  enclosed_readable = record {
    one_value = λ s x _ p. record { tag = tag; contents = p.contents; value = p.value };
    prefix_free = enclosed_prefix_free;
    takes = enclosed_takes;
    again = enclosed_again;
    shorter = enclosed_shorter;
    first = λ s x _ p. BeginsBy-value (λ b. eqb b tag.0) tag p.contents s (eqb_same tag.0) p.value;
    cut = enclosed_cut;
    stays = enclosed_stays;
  }

module _ {X : Type 0} (tag : Tag) (f : Fields X) (one_byte : tag.0 % 32 ≢ 31) (law : WritableFields f) where
  enclosed_has_encoding : (x : X) → f.in_form x → length (value_of tag.0 (f.encoding x)) < 2 ^ 64 → (enclosed tag f).Encodes (value_of tag.0 (f.encoding x)) x
  enclosed_has_encoding x h fits =
      let inner : length (f.encoding x) < 2 ^ 64 = omega (arith, length-value_of tag.0 (f.encoding x)) in
      record { contents = f.encoding x; fields = law.has_encoding x h inner; value = IsValue-of tag (f.encoding x) one_byte fits }

  pub enclosed_writable : Writable (enclosed tag f)
  enclosed_writable = record {
    encodes = λ s x h p. record { contents = p.contents; fields = law.encodes p.contents x h p.fields; value = p.value };
    written = λ s x p. record { tag = tag; contents = p.contents; value = p.value };
    is_encoding = λ s x p. p.value.bytes_are ∙ ap (value_of tag.0) (law.is_encoding p.contents x p.fields);
    has_encoding = enclosed_has_encoding;
    not_refused = λ s x p r. law.not_refused p.contents x p.fields r;
    accepted = law.accepted;
  }

pub enclosed_lawful : {X : Type 0} {f : Fields X} (tag : Tag) → tag.0 % 32 ≢ 31 → LawfulFields f → Lawful (enclosed tag f)
enclosed_lawful {f = f} tag one_byte law = record { readable = enclosed_readable tag f law.readable; writable = enclosed_writable tag f one_byte law.writable }

pub enclosed_tagged : {X : Type 0} (tag : Tag) (f : Fields X) → Tagged tag (enclosed tag f)
enclosed_tagged tag f = record {
  first = λ s x _ p. BeginsBy-value (λ b. eqb b tag.0) tag p.contents s (eqb_same tag.0) p.value;
  no_other = λ b. refl;
}

pub sequence_lawful : {X : Type 0} {f : Fields X} → LawfulFields f → Lawful (sequence f)
sequence_lawful law = enclosed_lawful (record { 0 = 48 }) (λ h. absurd (omega arith)) law

pub explicit_lawful : {X : Type 0} {f : Form X} (n : ℕ) → n < 16 → Lawful f → Lawful (explicit n f)
unfolding explicit
explicit_lawful n small law = enclosed_lawful (record { 0 = 160 + n }) (λ h. absurd (omega arith)) (one_lawful law)

-- ---- tags that differ

pub other_tag : (m n : ℕ) → eqb n m ≡ false → (b : ℕ) → eqb b n ≡ true → eqb b m ≡ false
other_tag m n differ b h =
    let b-is : b ≡ n = eqb-true b n h in
    rw b-is differ

one_of : (a b : Bool) → (a || b) ≡ true → (a ≡ true) ⊎ (b ≡ true)
one_of true b e = inl refl
one_of false b e = inr e

-- a run that begins with one of two tags
pub neither_begins : {more t u : ℕ → Bool} → ((b : ℕ) → t b ≡ true → more b ≡ false) → ((b : ℕ) → u b ≡ true → more b ≡ false) → (b : ℕ) → (t b || u b) ≡ true → more b ≡ false
neither_begins {t = t} {u = u} p q b h = elim (one_of (t b) (u b) h) [ inl i ↦ p b i | inr i ↦ q b i ]

none_of : (a b : Bool) → a ≡ false → b ≡ false → (a || b) ≡ false
none_of true b e f = e
none_of false b e f = f

-- a run behind one that might take two tags more
pub takes_neither : {begins t u : ℕ → Bool} → ((b : ℕ) → begins b ≡ true → t b ≡ false) → ((b : ℕ) → begins b ≡ true → u b ≡ false) → (b : ℕ) → begins b ≡ true → (t b || u b) ≡ false
takes_neither {t = t} {u = u} p q b h = none_of (t b) (u b) (p b h) (q b h)
