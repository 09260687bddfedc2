-- The laws of what is told by a key.
use Rattle.std.proofs.Common.{◌≡◌, ℕ, ◌+◌, ◌^◌, ◌<◌, Bool, true, false, ◌⊎◌, List, [], ◌∷◌, ◌++◌, length, Ok, refl, sym, ap, subst, ◌∙◌, arith, inl, inr}
use Rattle.std.proofs.lemmas.List.{append_cancel_left, length-append}
use Rattle.picky_der.specs.Length.{IsBytes}
use Rattle.picky_der.specs.Reading.{◌>>=◌, within}
use Rattle.picky_der.specs.Form.{Form, Readable, Writable, BeginsBy, Takes}
use Rattle.picky_der.specs.laws.Steps.{chosen, ok_is, bind_ok}
use Rattle.picky_der.specs.laws.Lengths.{IsBytes-after, TailIsBytes-of}
use Rattle.picky_fields.specs.Fields.{stands_next, Fields, Tells}
use Rattle.picky_fields.specs.Choice.{Cases, other_at, otherwise, case, told_at, told_by}
use Rattle.picky_fields.specs.laws.Depths.{at_then, at_map}
use Rattle.picky_fields.specs.laws.Fields.{NoneOrBegins, ReadableFields, WritableFields, LawfulFields, Lawful, next_or, regroup}

-- The laws of what stands after a key, where the keys are those of a form.
pub record LawfulCases {K Y : Type 0} (keys : Form K) (c : Cases K Y) : Type 0 where
  pub one_way : (x y : Y) (s t a b : List ℕ) → c.key x ≡ c.key y → c.in_form x → c.in_form y → c.Spells s x → c.Spells t y → stands_next c.takes_more a ≡ false → stands_next c.takes_more b ≡ false → s ++ a ≡ t ++ b → (s ≡ t) × (x ≡ y)
  pub takes : (k : K) (depth : ℕ) (bytes : List ℕ) (y : Y) (rest : List ℕ) → keys.in_form k → IsBytes bytes → c.reading k depth bytes ≡ Ok (y, rest) → (c.key y ≡ k) × Takes c.in_form c.Spells bytes y rest
  pub again : (k : K) (depth : ℕ) (s rest : List ℕ) (y : Y) → k ≡ c.key y → c.in_form y → (p : c.Spells s y) → stands_next c.takes_more rest ≡ false → c.reading k depth (s ++ rest) ≡ within depth (c.height s y p) (y, rest)
  pub encodes : (s : List ℕ) (y : Y) → c.in_form y → c.Encodes s y → c.Spells s y
  pub is_encoding : (s : List ℕ) (y : Y) → c.Encodes s y → s ≡ c.encoding y
  pub has_encoding : (y : Y) → c.in_form y → length (c.encoding y) < 2 ^ 64 → c.Encodes (c.encoding y) y
  pub not_refused : (s : List ℕ) (y : Y) → c.Encodes s y → c.Refused y → ⊥
  pub accepted : (y : Y) → c.in_form y → c.Refused y → ⊥

abbrev pair : {X Y : Type 0} → X → Y → X × Y
pair x y = (x, y)

-- ---- after any other key

module _ {K X : Type 0} (keys : Form K) (f : Fields X) (law : ReadableFields f) (written : WritableFields f) where
  other_one_way : (x y : K × X) (s t a b : List ℕ) → x.0 ≡ y.0 → f.in_form x.1 → f.in_form y.1 → f.Spells s x.1 → f.Spells t y.1 → stands_next f.takes_more a ≡ false → stands_next f.takes_more b ≡ false → s ++ a ≡ t ++ b → (s ≡ t) × (x ≡ y)
  other_one_way x y s t a b same h i p q m n e =
      let k = law.one_way x.1 y.1 s t a b h i p q m n e in
      (k.0, ap (λ (z : K). pair z x.1) same ∙ ap (λ (z : X). pair y.0 z) k.1)

  other_taken : (k : K) (bytes r rest : List ℕ) (w : X) (y : K × X) → Takes f.in_form f.Spells bytes w r → ◌≡◌ {A = (K × X) × List ℕ} ((k, w), r) (y, rest) → (y.0 ≡ k) × Takes (otherwise {K = K} f).in_form (otherwise {K = K} f).Spells bytes y rest
  other_taken k bytes r rest w y t same =
      subst (λ (p : (K × X) × List ℕ). (p.0.0 ≡ k) × Takes (otherwise {K = K} f).in_form (otherwise {K = K} f).Spells bytes p.0 p.1) same
      (refl, record { formed = t.formed; spelling = t.spelling; spelled = t.spelled; parts = t.parts })

  other_takes : (k : K) (depth : ℕ) (bytes : List ℕ) (y : K × X) (rest : List ℕ) → keys.in_form k → IsBytes bytes → other_at f.reading k depth bytes ≡ Ok (y, rest) → (y.0 ≡ k) × Takes (otherwise {K = K} f).in_form (otherwise {K = K} f).Spells bytes y rest
  other_takes k depth bytes y rest _ fits e =
      let v = bind_ok (f.reading depth bytes) (λ x. Ok ((k, x.0), x.1)) (y, rest) e in
      other_taken k bytes v.0.1 rest v.0.0 y (law.takes depth bytes v.0.0 v.0.1 fits v.1) (ok_is ((k, v.0.0), v.0.1) (y, rest) v.2)

  other_again : (k : K) (depth : ℕ) (s rest : List ℕ) (y : K × X) → k ≡ y.0 → f.in_form y.1 → (p : f.Spells s y.1) → stands_next f.takes_more rest ≡ false → other_at f.reading k depth (s ++ rest) ≡ within depth (f.height s y.1 p) (y, rest)
  other_again k depth s rest y same h p m =
      at_map depth _ _ (λ x. Ok ((k, x.0), x.1)) (y.1, rest) (y, rest) (law.again depth s rest y.1 h p m) (ap (λ (z : K). Ok (pair z y.1, rest)) same)

  other_cases : LawfulCases keys (otherwise {K = K} f)
  other_cases = record {
    one_way = other_one_way;
    takes = other_takes;
    again = other_again;
    encodes = λ s y h p. written.encodes s y.1 h p;
    is_encoding = λ s y p. written.is_encoding s y.1 p;
    has_encoding = λ y h fits. written.has_encoding y.1 h fits;
    not_refused = λ s y p r. written.not_refused s y.1 p r;
    accepted = λ y h r. written.accepted y.1 h r;
  }

pub otherwise_lawful : {K X : Type 0} {keys : Form K} {f : Fields X} → LawfulFields f → LawfulCases keys (otherwise f)
otherwise_lawful {keys = keys} {f = f} law = other_cases keys f law.readable law.writable

-- ---- after one key

abbrev left : {X Z : Type 0} → X → X ⊎ Z
left x = inl x

abbrev right : {X Z : Type 0} → Z → X ⊎ Z
right z = inr z

module _ {K X Z : Type 0} (keys : Form K) (id : K) (test : K → Bool) (tells : Tells keys.in_form id test) (f : Fields X) (law : LawfulFields f) (c : Cases K Z) (others : LawfulCases keys c) where
  abbrev all : Cases K (X ⊎ Z)
  all = case id test f c

  -- a value whose key is told isn't one of the others
  apart : (z : Z) → id ≡ c.key z → test (c.key z) ≡ false → ⊥
  apart z same none =
      let some : test (c.key z) ≡ true = subst (λ (k : K). test k ≡ true) same tells.holds in
      cc

  case_one_way : (x y : X ⊎ Z) (s t a b : List ℕ) → all.key x ≡ all.key y → all.in_form x → all.in_form y → all.Spells s x → all.Spells t y → stands_next all.takes_more a ≡ false → stands_next all.takes_more b ≡ false → s ++ a ≡ t ++ b → (s ≡ t) × (x ≡ y)
  case_one_way (inl x) (inl y) s t a b same h i p q m n e =
      let k = law.readable.one_way x y s t a b h i p q (next_or f.takes_more c.takes_more a m).0 (next_or f.takes_more c.takes_more b n).0 e in
      (k.0, ap (λ (z : X). left z) k.1)
  case_one_way (inl x) (inr y) s t a b same h i p q m n e = absurd (apart y same i.1)
  case_one_way (inr x) (inl y) s t a b same h i p q m n e = absurd (apart x (sym same) h.1)
  case_one_way (inr x) (inr y) s t a b same h i p q m n e =
      let k = others.one_way x y s t a b same h.0 i.0 p q (next_or f.takes_more c.takes_more a m).1 (next_or f.takes_more c.takes_more b n).1 e in
      (k.0, ap (λ (z : Z). right z) k.1)

  abbrev TakesOne : K → List ℕ → X ⊎ Z → List ℕ → Type 0
  TakesOne k bytes y rest = (all.key y ≡ k) × Takes all.in_form all.Spells bytes y rest

  first_taken : (k : K) (bytes r rest : List ℕ) (w : X) (y : X ⊎ Z) → k ≡ id → Takes f.in_form f.Spells bytes w r → ◌≡◌ {A = (X ⊎ Z) × List ℕ} (inl w, r) (y, rest) → TakesOne k bytes y rest
  first_taken k bytes r rest w y k-is t same =
      subst (λ (p : (X ⊎ Z) × List ℕ). TakesOne k bytes p.0 p.1) same
      (sym k-is, record { formed = t.formed; spelling = t.spelling; spelled = t.spelled; parts = t.parts })

  other_taken_too : (k : K) (bytes r rest : List ℕ) (w : Z) (y : X ⊎ Z) → test k ≡ false → c.key w ≡ k → Takes c.in_form c.Spells bytes w r → ◌≡◌ {A = (X ⊎ Z) × List ℕ} (inr w, r) (y, rest) → TakesOne k bytes y rest
  other_taken_too k bytes r rest w y none k-is t same =
      subst (λ (p : (X ⊎ Z) × List ℕ). TakesOne k bytes p.0 p.1) same
      (k-is, record { formed = (t.formed, subst (λ (j : K). test j ≡ false) (sym k-is) none); spelling = t.spelling; spelled = t.spelled; parts = t.parts })

  case_takes : (k : K) (depth : ℕ) (bytes : List ℕ) (y : X ⊎ Z) (rest : List ℕ) → keys.in_form k → IsBytes bytes → all.reading k depth bytes ≡ Ok (y, rest) → TakesOne k bytes y rest
  case_takes k depth bytes y rest formed fits e =
      elim (chosen (test k) (f.reading depth bytes >>= λ x. Ok (left x.0, x.1)) (c.reading k depth bytes >>= λ z. Ok (right z.0, z.1)) (Ok (y, rest)) e) [
        | inl h ↦
            let v = bind_ok (f.reading depth bytes) (λ x. Ok (left x.0, x.1)) (y, rest) h.1 in
            first_taken k bytes v.0.1 rest v.0.0 y (tells.alone k formed h.0) (law.readable.takes depth bytes v.0.0 v.0.1 fits v.1) (ok_is (left v.0.0, v.0.1) (y, rest) v.2)
        | inr h ↦
            let v = bind_ok (c.reading k depth bytes) (λ z. Ok (right z.0, z.1)) (y, rest) h.1 in
            let t = others.takes k depth bytes v.0.0 v.0.1 formed fits v.1 in
            other_taken_too k bytes v.0.1 rest v.0.0 y h.0 t.0 t.1 (ok_is (right v.0.0, v.0.1) (y, rest) v.2)
      ]

  case_again : (k : K) (depth : ℕ) (s rest : List ℕ) (y : X ⊎ Z) → k ≡ all.key y → all.in_form y → (p : all.Spells s y) → stands_next all.takes_more rest ≡ false → all.reading k depth (s ++ rest) ≡ within depth (all.height s y p) (y, rest)
  case_again k depth s rest (inl x) same h p m =
      let told : test k ≡ true = subst (λ (j : K). test j ≡ true) (sym same) tells.holds in
      rw told (at_map depth _ _ (λ x. Ok (left x.0, x.1)) (x, rest) (left x, rest) (law.readable.again depth s rest x h p (next_or f.takes_more c.takes_more rest m).0) refl)
  case_again k depth s rest (inr z) same h p m =
      let untold : test k ≡ false = subst (λ (j : K). test j ≡ false) (sym same) h.1 in
      rw untold (at_map depth _ _ (λ z. Ok (right z.0, z.1)) (z, rest) (right z, rest) (others.again k depth s rest z same h.0 p (next_or f.takes_more c.takes_more rest m).1) refl)

  case_encodes : (s : List ℕ) (y : X ⊎ Z) → all.in_form y → all.Encodes s y → all.Spells s y
  case_encodes s (inl x) h p = law.writable.encodes s x h p
  case_encodes s (inr z) h p = others.encodes s z h.0 p

  case_is_encoding : (s : List ℕ) (y : X ⊎ Z) → all.Encodes s y → s ≡ all.encoding y
  case_is_encoding s (inl x) p = law.writable.is_encoding s x p
  case_is_encoding s (inr z) p = others.is_encoding s z p

  case_has_encoding : (y : X ⊎ Z) → all.in_form y → length (all.encoding y) < 2 ^ 64 → all.Encodes (all.encoding y) y
  case_has_encoding (inl x) h fits = law.writable.has_encoding x h fits
  case_has_encoding (inr z) h fits = others.has_encoding z h.0 fits

  case_not_refused : (s : List ℕ) (y : X ⊎ Z) → all.Encodes s y → all.Refused y → ⊥
  case_not_refused s (inl x) p r = law.writable.not_refused s x p r
  case_not_refused s (inr z) p r = others.not_refused s z p r

  case_accepted : (y : X ⊎ Z) → all.in_form y → all.Refused y → ⊥
  case_accepted (inl x) h r = law.writable.accepted x h r
  case_accepted (inr z) h r = others.accepted z h.0 r

  case_cases : LawfulCases keys all
  case_cases = record {
    one_way = case_one_way;
    takes = case_takes;
    again = case_again;
    encodes = case_encodes;
    is_encoding = case_is_encoding;
    has_encoding = case_has_encoding;
    not_refused = case_not_refused;
    accepted = case_accepted;
  }

pub case_lawful : {K X Z : Type 0} {keys : Form K} {id : K} {test : K → Bool} {f : Fields X} {c : Cases K Z} → Tells keys.in_form id test → LawfulFields f → LawfulCases keys c → LawfulCases keys (case id test f c)
case_lawful {keys = keys} {id = id} {test = test} {f = f} {c = c} tells law others = case_cases keys id test tells f law c others

-- ---- a key and what stands after it

module _ {K Y : Type 0} (f : Form K) (law : Readable f) (c : Cases K Y) (cases : LawfulCases f c) where
  abbrev run : Fields Y
  run = told_by f c

  told_one_way : (x y : Y) (s t a b : List ℕ) → run.in_form x → run.in_form y → run.Spells s x → run.Spells t y → stands_next c.takes_more a ≡ false → stands_next c.takes_more b ≡ false → s ++ a ≡ t ++ b → (s ≡ t) × (x ≡ y)
  told_one_way x y s t a b h i p q m n e =
      let joined : p.front ++ (p.back ++ a) ≡ q.front ++ (q.back ++ b) = sym (regroup s p.front p.back a p.parts) ∙ e ∙ regroup t q.front q.back b q.parts in
      let k = law.prefix_free (c.key x) (c.key y) p.front q.front (p.back ++ a) (q.back ++ b) h.0 i.0 p.is_first q.is_first joined in
      let later : p.back ++ a ≡ q.back ++ b = append_cancel_left p.front (p.back ++ a) (q.back ++ b) (joined ∙ ap (λ (r : List ℕ). r ++ (q.back ++ b)) (sym k.0)) in
      let l = cases.one_way x y p.back q.back a b k.1 h.1 i.1 p.is_second q.is_second m n later in
      (p.parts ∙ ap (λ (r : List ℕ). r ++ p.back) k.0 ∙ ap (λ (r : List ℕ). q.front ++ r) l.0 ∙ sym q.parts, l.1)

  told_taken : (bytes middle rest : List ℕ) (k : K) (y : Y) → Takes f.in_form f.Spells bytes k middle → c.key y ≡ k → Takes c.in_form c.Spells middle y rest → Takes run.in_form run.Spells bytes y rest
  told_taken bytes middle rest k y t same u =
      record {
        formed = (subst f.in_form (sym same) t.formed, u.formed);
        spelling = t.spelling ++ u.spelling;
        spelled = record { front = t.spelling; is_first = subst (λ (j : K). f.Spells t.spelling j) (sym same) t.spelled; back = u.spelling; is_second = u.spelled; parts = refl };
        parts = t.parts ∙ ap (λ (z : List ℕ). t.spelling ++ z) u.parts ∙ sym (regroup (t.spelling ++ u.spelling) t.spelling u.spelling rest refl);
      }

  told_takes : (depth : ℕ) (bytes : List ℕ) (y : Y) (rest : List ℕ) → IsBytes bytes → told_at f.reading c.reading depth bytes ≡ Ok (y, rest) → Takes run.in_form run.Spells bytes y rest
  told_takes depth bytes y rest fits e =
      let v = bind_ok (f.reading depth bytes) (λ k. c.reading k.0 depth k.1) (y, rest) e in
      let t = law.takes depth bytes v.0.0 v.0.1 (TailIsBytes-of bytes fits) v.1 in
      let u = cases.takes v.0.0 depth v.0.1 y rest t.formed (IsBytes-after t.spelling v.0.1 (subst IsBytes t.parts fits)) v.2 in
      told_taken bytes v.0.1 rest v.0.0 y t u.0 u.1

  told_again : (depth : ℕ) (s rest : List ℕ) (y : Y) → run.in_form y → (p : run.Spells s y) → stands_next c.takes_more rest ≡ false → told_at f.reading c.reading depth (s ++ rest) ≡ within depth (run.height s y p) (y, rest)
  told_again depth s rest y h p m =
      let joined : s ++ rest ≡ p.front ++ (p.back ++ rest) = regroup s p.front p.back rest p.parts in
      let first = law.again depth p.front (p.back ++ rest) (c.key y) h.0 p.is_first in
      let second = cases.again (c.key y) depth p.back rest y refl h.1 p.is_second m in
      rw joined (at_then depth _ _ _ (λ k. c.reading k.0 depth k.1) (c.key y, p.back ++ rest) (y, rest) first second)

  begin_front : (front back s : List ℕ) → BeginsBy f.begins front → s ≡ front ++ back → NoneOrBegins f.begins s
  begin_front [] back s h e = absurd h
  begin_front (b ∷ bs) back s h e = inr (rw e h)

  told_readable : ReadableFields run
  told_readable = record {
    one_way = told_one_way;
    takes = told_takes;
    again = told_again;
    first = λ s y h p. begin_front p.front p.back s (law.first p.front (c.key y) h.0 p.is_first) p.parts;
  }

module _ {K Y : Type 0} (f : Form K) (law : Writable f) (c : Cases K Y) (cases : LawfulCases f c) where
  told_has_encoding : (y : Y) → (told_by f c).in_form y → length (f.encoding (c.key y) ++ c.encoding y) < 2 ^ 64 → (told_by f c).Encodes (f.encoding (c.key y) ++ c.encoding y) y
  told_has_encoding y h fits =
      let both : length (f.encoding (c.key y) ++ c.encoding y) ≡ length (f.encoding (c.key y)) + length (c.encoding y) = length-append (f.encoding (c.key y)) (c.encoding y) in
      let in_front : length (f.encoding (c.key y)) < 2 ^ 64 = omega arith in
      let behind : length (c.encoding y) < 2 ^ 64 = omega arith in
      record { front = f.encoding (c.key y); is_first = law.has_encoding (c.key y) h.0 in_front; back = c.encoding y; is_second = cases.has_encoding y h.1 behind; parts = refl }

  told_not_refused : (s : List ℕ) (y : Y) → (told_by f c).Encodes s y → f.Refused (c.key y) ⊎ c.Refused y → ⊥
  told_not_refused s y p (inl r) = law.not_refused p.front (c.key y) p.is_first r
  told_not_refused s y p (inr r) = cases.not_refused p.back y p.is_second r

  told_accepted : (y : Y) → (told_by f c).in_form y → f.Refused (c.key y) ⊎ c.Refused y → ⊥
  told_accepted y h (inl r) = law.accepted (c.key y) h.0 r
  told_accepted y h (inr r) = cases.accepted y h.1 r

  told_writable : WritableFields (told_by f c)
  told_writable = record {
    encodes = λ s y h p. record { front = p.front; is_first = law.encodes p.front (c.key y) h.0 p.is_first; back = p.back; is_second = cases.encodes p.back y h.1 p.is_second; parts = p.parts };
    is_encoding = λ s y p. p.parts ∙ ap (λ (r : List ℕ). r ++ p.back) (law.is_encoding p.front (c.key y) p.is_first) ∙ ap (λ (r : List ℕ). f.encoding (c.key y) ++ r) (cases.is_encoding p.back y p.is_second);
    has_encoding = told_has_encoding;
    not_refused = told_not_refused;
    accepted = told_accepted;
  }

pub told_lawful : {K Y : Type 0} {f : Form K} {c : Cases K Y} → Lawful f → LawfulCases f c → LawfulFields (told_by f c)
told_lawful {f = f} {c = c} law cases = record { readable = told_readable f law.readable c cases; writable = told_writable f law.writable c cases }
