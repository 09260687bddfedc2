-- The laws of what is told by one of several keys that have names.
use Rattle.std.proofs.Common.{◌≡◌, ℕ, ◌^◌, ◌<◌, false, ◌⊎◌, List, ◌++◌, length, Option, Some, None, Ok, refl, sym, ap, subst, ◌∙◌, inl, inr}
use Rattle.picky_der.specs.Length.{IsBytes}
use Rattle.picky_der.specs.Reading.{within}
use Rattle.picky_der.specs.Form.{Form, Takes}
use Rattle.picky_der.specs.laws.Steps.{ok_is, bind_ok}
use Rattle.picky_fields.specs.Fields.{stands_next, Fields}
use Rattle.picky_fields.specs.Choice.{Cases}
use Rattle.picky_fields.specs.Names.{Names, named_at, among}
use Rattle.picky_fields.specs.laws.Depths.{at_map}
use Rattle.picky_fields.specs.laws.Fields.{LawfulFields, next_or}
use Rattle.picky_fields.specs.laws.Choice.{LawfulCases}

abbrev left : {W Z : Type 0} → W → W ⊎ Z
left w = inl w

abbrev right : {W Z : Type 0} → Z → W ⊎ Z
right z = inr z

abbrev pair : {N X : Type 0} → N → X → N × X
pair n x = (n, x)

some_is : {N : Type 0} (m n : N) → Some m ≡ Some n → m ≡ n
some_is m n e = cc

module _ {K N X Z : Type 0} (keys : Form K) (key : N → K) (name : K → Option N) (names : Names keys.in_form key name) (f : Fields X) (law : LawfulFields f) (c : Cases K Z) (others : LawfulCases keys c) where
  abbrev all : Cases K ((N × X) ⊎ Z)
  all = among key name f c

  -- a value whose key has a name isn't one of the others
  apart : (n : N) (z : Z) → key n ≡ c.key z → name (c.key z) ≡ None → ⊥
  apart n z same none =
      let some : name (c.key z) ≡ Some n = subst (λ (k : K). name k ≡ Some n) same (names.named n) in
      cc

  same_name : (m n : N) → key m ≡ key n → m ≡ n
  same_name m n same = some_is m n (sym (names.named m) ∙ ap name same ∙ names.named n)

  among_one_way : (x y : (N × X) ⊎ Z) (s t a b : List ℕ) → all.key x ≡ all.key y → all.in_form x → all.in_form y → all.Spells s x → all.Spells t y → stands_next all.takes_more a ≡ false → stands_next all.takes_more b ≡ false → s ++ a ≡ t ++ b → (s ≡ t) × (x ≡ y)
  among_one_way (inl x) (inl y) s t a b same h i p q m n e =
      let k = law.readable.one_way x.1 y.1 s t a b h i p q (next_or f.takes_more c.takes_more a m).0 (next_or f.takes_more c.takes_more b n).0 e in
      (k.0, ap (λ (w : N). left (pair w x.1)) (same_name x.0 y.0 same) ∙ ap (λ (z : X). left (pair y.0 z)) k.1)
  among_one_way (inl x) (inr y) s t a b same h i p q m n e = absurd (apart x.0 y same i.1)
  among_one_way (inr x) (inl y) s t a b same h i p q m n e = absurd (apart y.0 x (sym same) h.1)
  among_one_way (inr x) (inr y) s t a b same h i p q m n e =
      let k = others.one_way x y s t a b same h.0 i.0 p q (next_or f.takes_more c.takes_more a m).1 (next_or f.takes_more c.takes_more b n).1 e in
      (k.0, ap (λ (z : Z). right z) k.1)

  abbrev TakesOne : K → List ℕ → (N × X) ⊎ Z → List ℕ → Type 0
  TakesOne k bytes y rest = (all.key y ≡ k) × Takes all.in_form all.Spells bytes y rest

  first_taken : (k : K) (bytes r rest : List ℕ) (n : N) (w : X) (y : (N × X) ⊎ Z) → k ≡ key n → Takes f.in_form f.Spells bytes w r → ◌≡◌ {A = ((N × X) ⊎ Z) × List ℕ} (inl (n, w), r) (y, rest) → TakesOne k bytes y rest
  first_taken k bytes r rest n w y k-is t same =
      subst (λ (p : ((N × X) ⊎ Z) × List ℕ). TakesOne k bytes p.0 p.1) same
      (sym k-is, record { formed = t.formed; spelling = t.spelling; spelled = t.spelled; parts = t.parts })

  other_taken : (k : K) (bytes r rest : List ℕ) (w : Z) (y : (N × X) ⊎ Z) → name k ≡ None → c.key w ≡ k → Takes c.in_form c.Spells bytes w r → ◌≡◌ {A = ((N × X) ⊎ Z) × List ℕ} (inr w, r) (y, rest) → TakesOne k bytes y rest
  other_taken k bytes r rest w y none k-is t same =
      subst (λ (p : ((N × X) ⊎ Z) × List ℕ). TakesOne k bytes p.0 p.1) same
      (k-is, record { formed = (t.formed, subst (λ (j : K). name j ≡ None) (sym k-is) none); spelling = t.spelling; spelled = t.spelled; parts = t.parts })

  -- by the name of the key
  named_takes : (o : Option N) (k : K) (depth : ℕ) (bytes : List ℕ) (y : (N × X) ⊎ Z) (rest : List ℕ) → name k ≡ o → keys.in_form k → IsBytes bytes → named_at o f.reading c.reading k depth bytes ≡ Ok (y, rest) → TakesOne k bytes y rest
  named_takes (Some n) k depth bytes y rest is formed fits e =
      let v = bind_ok (f.reading depth bytes) (λ x. Ok (left (pair n x.0), x.1)) (y, rest) e in
      first_taken k bytes v.0.1 rest n v.0.0 y (names.alone k n formed is) (law.readable.takes depth bytes v.0.0 v.0.1 fits v.1) (ok_is (left (pair n v.0.0), v.0.1) (y, rest) v.2)
  named_takes None k depth bytes y rest is formed fits e =
      let v = bind_ok (c.reading k depth bytes) (λ z. Ok (right z.0, z.1)) (y, rest) e in
      let t = others.takes k depth bytes v.0.0 v.0.1 formed fits v.1 in
      other_taken k bytes v.0.1 rest v.0.0 y is t.0 t.1 (ok_is (right v.0.0, v.0.1) (y, rest) v.2)

  among_again : (k : K) (depth : ℕ) (s rest : List ℕ) (y : (N × X) ⊎ Z) → k ≡ all.key y → all.in_form y → (p : all.Spells s y) → stands_next all.takes_more rest ≡ false → all.reading k depth (s ++ rest) ≡ within depth (all.height s y p) (y, rest)
  among_again k depth s rest (inl x) same h p m =
      let told : name k ≡ Some x.0 = ap name same ∙ names.named x.0 in
      rw told (at_map depth _ _ (λ v. Ok (left (pair x.0 v.0), v.1)) (x.1, rest) (left x, rest) (law.readable.again depth s rest x.1 h p (next_or f.takes_more c.takes_more rest m).0) refl)
  among_again k depth s rest (inr z) same h p m =
      let untold : name k ≡ None = ap name same ∙ h.1 in
      rw untold (at_map depth _ _ (λ v. Ok (right v.0, v.1)) (z, rest) (right z, rest) (others.again k depth s rest z same h.0 p (next_or f.takes_more c.takes_more rest m).1) refl)

  among_encodes : (s : List ℕ) (y : (N × X) ⊎ Z) → all.in_form y → all.Encodes s y → all.Spells s y
  among_encodes s (inl x) h p = law.writable.encodes s x.1 h p
  among_encodes s (inr z) h p = others.encodes s z h.0 p

  among_is_encoding : (s : List ℕ) (y : (N × X) ⊎ Z) → all.Encodes s y → s ≡ all.encoding y
  among_is_encoding s (inl x) p = law.writable.is_encoding s x.1 p
  among_is_encoding s (inr z) p = others.is_encoding s z p

  among_has_encoding : (y : (N × X) ⊎ Z) → all.in_form y → length (all.encoding y) < 2 ^ 64 → all.Encodes (all.encoding y) y
  among_has_encoding (inl x) h fits = law.writable.has_encoding x.1 h fits
  among_has_encoding (inr z) h fits = others.has_encoding z h.0 fits

  among_not_refused : (s : List ℕ) (y : (N × X) ⊎ Z) → all.Encodes s y → all.Refused y → ⊥
  among_not_refused s (inl x) p r = law.writable.not_refused s x.1 p r
  among_not_refused s (inr z) p r = others.not_refused s z p r

  among_accepted : (y : (N × X) ⊎ Z) → all.in_form y → all.Refused y → ⊥
  among_accepted (inl x) h r = law.writable.accepted x.1 h r
  among_accepted (inr z) h r = others.accepted z h.0 r

  among_cases : LawfulCases keys all
  among_cases = record {
    one_way = among_one_way;
    takes = λ k depth bytes y rest formed fits e. named_takes (name k) k depth bytes y rest refl formed fits e;
    again = among_again;
    encodes = among_encodes;
    is_encoding = among_is_encoding;
    has_encoding = among_has_encoding;
    not_refused = among_not_refused;
    accepted = among_accepted;
  }

pub among_lawful : {K N X Z : Type 0} {keys : Form K} {key : N → K} {name : K → Option N} {f : Fields X} {c : Cases K Z} → Names keys.in_form key name → LawfulFields f → LawfulCases keys c → LawfulCases keys (among key name f c)
among_lawful {keys = keys} {key = key} {name = name} {f = f} {c = c} names law others = among_cases keys key name names f law c others
