-- The laws of a field of one value, of a field that may be left out, and of one with a default.
use Rattle.std.proofs.Common.{◌≡◌, ℕ, ◌^◌, ◌<◌, Bool, true, false, cond, ◌⊎◌, List, [], ◌∷◌, ◌++◌, length, Option, Some, None, Ok, Err, refl, sym, ap, subst, ◌∙◌, inl, inr}
use Rattle.std.specs.Prelude.{IfSome}
use Rattle.picky_der.specs.declared.fault.DerError.TheVariants.{BadValue}
use Rattle.picky_der.specs.Length.{IsBytes}
use Rattle.picky_der.specs.Reading.{◌>>=◌, within}
use Rattle.picky_der.specs.Form.{Form, Readable, Writable, BeginsBy, Takes}
use Rattle.picky_der.specs.laws.Depth.{within_none}
use Rattle.picky_der.specs.laws.Steps.{chosen, ok_is, need_ok, bind_ok}
use Rattle.picky_der.specs.laws.Lengths.{TailIsBytes-of}
use Rattle.picky_fields.specs.Fields.{stands_next, Fields, Tells, only_at, only, SpellsOptional, optional_encoding, OptionalRefused, optional_height, optional_at, optional_by, optional, optional_last, any_tag, Unless, default_at, defaulting, defaulted, null_or_none}
use Rattle.picky_fields.specs.laws.Depths.{at_map}
use Rattle.picky_fields.specs.laws.Fields.{NoneOrBegins, ReadableFields, WritableFields, LawfulFields, Lawful}
use Rattle.picky_fields.specs.laws.Plain.{null_lawful}

-- ---- a field of one value

module _ {X : Type 0} (x : X) (test : X → Bool) (f : Form X) (tells : Tells f.in_form x test) where
  only_taken : (bytes r rest : List ℕ) (w : X) (u : Unit {0}) → w ≡ x → Takes f.in_form f.Spells bytes w r → ◌≡◌ {A = Unit {0} × List ℕ} (tt, r) (u, rest) → Takes (only x test f).in_form (only x test f).Spells bytes u rest
  only_taken bytes r rest w u w-is t same =
      subst (λ (p : Unit {0} × List ℕ). Takes (only x test f).in_form (only x test f).Spells bytes p.0 p.1) same
      (record { formed = tt; spelling = t.spelling; spelled = subst (λ (z : X). f.Spells t.spelling z) w-is t.spelled; parts = t.parts })

  only_takes : Readable f → (depth : ℕ) (bytes : List ℕ) (u : Unit {0}) (rest : List ℕ) → IsBytes bytes → only_at test f.reading depth bytes ≡ Ok (u, rest) → Takes (only x test f).in_form (only x test f).Spells bytes u rest
  unfolding only_at
  only_takes law depth bytes u rest fits e =
      let v = bind_ok (f.reading depth bytes) (λ y. cond (test y.0) (Ok (tt, y.1)) (Err BadValue)) (u, rest) e in
      let a = need_ok (test v.0.0) BadValue (Ok (tt, v.0.1)) (u, rest) v.2 in
      let t = law.takes depth bytes v.0.0 v.0.1 (TailIsBytes-of bytes fits) v.1 in
      only_taken bytes v.0.1 rest v.0.0 u (tells.alone v.0.0 t.formed a.0) t (ok_is (tt, v.0.1) (u, rest) a.1)

  only_again : Readable f → (depth : ℕ) (s rest : List ℕ) (u : Unit {0}) → (p : f.Spells s x) → only_at test f.reading depth (s ++ rest) ≡ within depth (f.height s x p) (u, rest)
  unfolding only_at
  only_again law depth s rest u p =
      at_map depth _ _ (λ y. cond (test y.0) (Ok (tt, y.1)) (Err BadValue)) (x, rest) (u, rest) (law.again depth s rest x tells.formed p) (rw tells.holds refl)

  only_fields : Lawful f → LawfulFields (only x test f)
  only_fields law = record {
    readable = record {
      one_way = λ _ _ s t a b _ _ p q _ _ e. ((law.readable.prefix_free x x s t a b tells.formed tells.formed p q e).0, refl);
      takes = only_takes law.readable;
      again = λ depth s rest u _ p _. only_again law.readable depth s rest u p;
      first = λ s _ _ p. inr (law.readable.first s x tells.formed p);
    };
    writable = record {
      encodes = λ s _ _ p. law.writable.encodes s x tells.formed p;
      is_encoding = λ s _ p. law.writable.is_encoding s x p;
      has_encoding = λ _ _ fits. law.writable.has_encoding x tells.formed fits;
      not_refused = λ s _ p r. law.writable.not_refused s x p r;
      accepted = λ _ _ r. law.writable.accepted x tells.formed r;
    };
  }

pub only_lawful : {X : Type 0} {x : X} {test : X → Bool} {f : Form X} → Tells f.in_form x test → Lawful f → LawfulFields (only x test f)
only_lawful {x = x} {test = test} {f = f} tells law = only_fields x test f tells law

-- ---- a field that may be left out

pub next_begins : (test begins : ℕ → Bool) (s rest : List ℕ) → ((b : ℕ) → begins b ≡ true → test b ≡ true) → BeginsBy begins s → stands_next test (s ++ rest) ≡ true
next_begins test begins [] rest wide h = absurd h
next_begins test begins (b ∷ bs) rest wide h = wide b h

abbrev there : {X : Type 0} → X → Option X
there x = Some x

module _ {X : Type 0} (test : ℕ → Bool) (f : Form X) (wide : (b : ℕ) → f.begins b ≡ true → test b ≡ true) (law : Readable f) where
  optional_none : (a t b : List ℕ) (y : X) → f.in_form y → f.Spells t y → stands_next test a ≡ false → a ≡ t ++ b → ⊥
  optional_none a t b y h q apart e =
      let next : stands_next test (t ++ b) ≡ true = next_begins test f.begins t b wide (law.first t y h q) in
      let none : stands_next test (t ++ b) ≡ false = subst (λ (r : List ℕ). stands_next test r ≡ false) e apart in
      cc

  optional_one_way : (x y : Option X) (s t a b : List ℕ) → IfSome x f.in_form → IfSome y f.in_form → SpellsOptional f.Spells s x → SpellsOptional f.Spells t y → stands_next test a ≡ false → stands_next test b ≡ false → s ++ a ≡ t ++ b → (s ≡ t) × (x ≡ y)
  optional_one_way None None s t a b g h p q m n e = (p ∙ sym q, refl)
  optional_one_way None (Some y) s t a b g h p q m n e = absurd (optional_none a t b y h q m (sym (ap (λ (r : List ℕ). r ++ a) p) ∙ e))
  optional_one_way (Some x) None s t a b g h p q m n e = absurd (optional_none b s a x g p n (sym (ap (λ (r : List ℕ). r ++ b) q) ∙ sym e))
  optional_one_way (Some x) (Some y) s t a b g h p q m n e =
      let k = law.prefix_free x y s t a b g h p q e in
      (k.0, ap (λ (z : X). there z) k.1)

  abbrev TakesOptional : List ℕ → Option X → List ℕ → Type 0
  TakesOptional bytes x rest = Takes (λ (o : Option X). IfSome o f.in_form) (SpellsOptional f.Spells) bytes x rest

  optional_there : (bytes r : List ℕ) (v : X) (x : Option X) (rest : List ℕ) → Takes f.in_form f.Spells bytes v r → ◌≡◌ {A = Option X × List ℕ} (Some v, r) (x, rest) → TakesOptional bytes x rest
  optional_there bytes r v x rest t same =
      subst (λ (p : Option X × List ℕ). TakesOptional bytes p.0 p.1) same
      (record { formed = t.formed; spelling = t.spelling; spelled = t.spelled; parts = t.parts })

  optional_absent : (bytes : List ℕ) (x : Option X) (rest : List ℕ) → ◌≡◌ {A = Option X × List ℕ} (None, bytes) (x, rest) → TakesOptional bytes x rest
  optional_absent bytes x rest same =
      subst (λ (p : Option X × List ℕ). TakesOptional bytes p.0 p.1) same
      (record { formed = tt; spelling = []; spelled = refl; parts = refl })

  optional_takes : (depth : ℕ) (bytes : List ℕ) (x : Option X) (rest : List ℕ) → IsBytes bytes → optional_at test f.reading depth bytes ≡ Ok (x, rest) → TakesOptional bytes x rest
  unfolding optional_at
  optional_takes depth bytes x rest fits e =
      elim (chosen (stands_next test bytes) (f.reading depth bytes >>= λ x. Ok (Some x.0, x.1)) (Ok (None, bytes)) (Ok (x, rest)) e) [
        | inl h ↦
            let v = bind_ok (f.reading depth bytes) (λ x. Ok (Some x.0, x.1)) (x, rest) h.1 in
            optional_there bytes v.0.1 v.0.0 x rest (law.takes depth bytes v.0.0 v.0.1 (TailIsBytes-of bytes fits) v.1) (ok_is (Some v.0.0, v.0.1) (x, rest) v.2)
        | inr h ↦ optional_absent bytes x rest (ok_is (None, bytes) (x, rest) h.1)
      ]

  optional_again : (depth : ℕ) (s rest : List ℕ) (x : Option X) → IfSome x f.in_form → (p : SpellsOptional f.Spells s x) → stands_next test rest ≡ false → optional_at test f.reading depth (s ++ rest) ≡ within depth (optional_height f s x p) (x, rest)
  unfolding optional_at
  optional_again depth s rest None h p apart = rw (p, apart) (sym (within_none depth (None, rest)))
  optional_again depth s rest (Some x) h p apart =
      let next : stands_next test (s ++ rest) ≡ true = next_begins test f.begins s rest wide (law.first s x h p) in
      rw next (at_map depth _ _ (λ x. Ok (Some x.0, x.1)) (x, rest) (Some x, rest) (law.again depth s rest x h p) refl)

  optional_first : (s : List ℕ) (x : Option X) → IfSome x f.in_form → SpellsOptional f.Spells s x → NoneOrBegins f.begins s
  optional_first s None h p = inl p
  optional_first s (Some x) h p = inr (law.first s x h p)

  optional_readable : ReadableFields (optional_by test f)
  optional_readable = record { one_way = optional_one_way; takes = optional_takes; again = optional_again; first = optional_first }

module _ {X : Type 0} (test : ℕ → Bool) (f : Form X) (law : Writable f) where
  optional_encodes : (s : List ℕ) (x : Option X) → IfSome x f.in_form → SpellsOptional f.Encodes s x → SpellsOptional f.Spells s x
  optional_encodes s None h p = p
  optional_encodes s (Some x) h p = law.encodes s x h p

  optional_is_encoding : (s : List ℕ) (x : Option X) → SpellsOptional f.Encodes s x → s ≡ optional_encoding f.encoding x
  optional_is_encoding s None p = p
  optional_is_encoding s (Some x) p = law.is_encoding s x p

  optional_has_encoding : (x : Option X) → IfSome x f.in_form → length (optional_encoding f.encoding x) < 2 ^ 64 → SpellsOptional f.Encodes (optional_encoding f.encoding x) x
  optional_has_encoding None h fits = refl
  optional_has_encoding (Some x) h fits = law.has_encoding x h fits

  optional_not_refused : (s : List ℕ) (x : Option X) → SpellsOptional f.Encodes s x → OptionalRefused f.Refused x → ⊥
  optional_not_refused s None p r = r
  optional_not_refused s (Some x) p r = law.not_refused s x p r

  optional_accepted : (x : Option X) → IfSome x f.in_form → OptionalRefused f.Refused x → ⊥
  optional_accepted None h r = r
  optional_accepted (Some x) h r = law.accepted x h r

  optional_writable : WritableFields (optional_by test f)
  optional_writable = record {
    encodes = optional_encodes;
    is_encoding = optional_is_encoding;
    has_encoding = optional_has_encoding;
    not_refused = optional_not_refused;
    accepted = optional_accepted;
  }

pub optional_lawful : {X : Type 0} {f : Form X} → Lawful f → LawfulFields (optional f)
optional_lawful {f = f} law = record { readable = optional_readable f.begins f (λ b h. h) law.readable; writable = optional_writable f.begins f law.writable }

pub optional_last_lawful : {X : Type 0} {f : Form X} → Lawful f → LawfulFields (optional_last f)
optional_last_lawful {f = f} law = record { readable = optional_readable any_tag f (λ b h. refl) law.readable; writable = optional_writable any_tag f law.writable }

-- ---- a field with a default

module _ {X : Type 0} (d : X) (left_out : X → Bool) (test : ℕ → Bool) (f : Form X) (wide : (b : ℕ) → f.begins b ≡ true → test b ≡ true) (formed : f.in_form d) (law : Readable f) where
  abbrev run : Fields X
  run = defaulting d left_out test f

  not_there : (a t b : List ℕ) (y : X) → f.in_form y → f.Spells t y → stands_next test a ≡ false → a ≡ t ++ b → ⊥
  not_there a t b y h q apart e =
      let next : stands_next test (t ++ b) ≡ true = next_begins test f.begins t b wide (law.first t y h q) in
      let none : stands_next test (t ++ b) ≡ false = subst (λ (r : List ℕ). stands_next test r ≡ false) e apart in
      cc

  default_one_way : (x y : X) (s t a b : List ℕ) → f.in_form x → f.in_form y → run.Spells s x → run.Spells t y → stands_next test a ≡ false → stands_next test b ≡ false → s ++ a ≡ t ++ b → (s ≡ t) × (x ≡ y)
  default_one_way x y s t a b h i (inl p) (inl q) m n e = (p.0 ∙ sym q.0, p.1 ∙ sym q.1)
  default_one_way x y s t a b h i (inl p) (inr q) m n e = absurd (not_there a t b y i q m (sym (ap (λ (r : List ℕ). r ++ a) p.0) ∙ e))
  default_one_way x y s t a b h i (inr p) (inl q) m n e = absurd (not_there b s a x h p n (sym (ap (λ (r : List ℕ). r ++ b) q.0) ∙ sym e))
  default_one_way x y s t a b h i (inr p) (inr q) m n e = law.prefix_free x y s t a b h i p q e

  default_absent : (bytes : List ℕ) (x : X) (rest : List ℕ) → ◌≡◌ {A = X × List ℕ} (d, bytes) (x, rest) → Takes f.in_form run.Spells bytes x rest
  default_absent bytes x rest same =
      subst (λ (p : X × List ℕ). Takes f.in_form run.Spells bytes p.0 p.1) same
      (record { formed = formed; spelling = []; spelled = inl (refl, refl); parts = refl })

  default_there : (bytes : List ℕ) (x : X) (rest : List ℕ) → Takes f.in_form f.Spells bytes x rest → Takes f.in_form run.Spells bytes x rest
  default_there bytes x rest t = record { formed = t.formed; spelling = t.spelling; spelled = inr t.spelled; parts = t.parts }

  default_takes : (depth : ℕ) (bytes : List ℕ) (x : X) (rest : List ℕ) → IsBytes bytes → default_at d test f.reading depth bytes ≡ Ok (x, rest) → Takes f.in_form run.Spells bytes x rest
  unfolding default_at
  default_takes depth bytes x rest fits e =
      elim (chosen (stands_next test bytes) (f.reading depth bytes) (Ok (d, bytes)) (Ok (x, rest)) e) [
        | inl h ↦ default_there bytes x rest (law.takes depth bytes x rest (TailIsBytes-of bytes fits) h.1)
        | inr h ↦ default_absent bytes x rest (ok_is (d, bytes) (x, rest) h.1)
      ]

  default_again : (depth : ℕ) (s rest : List ℕ) (x : X) → f.in_form x → (p : run.Spells s x) → stands_next test rest ≡ false → default_at d test f.reading depth (s ++ rest) ≡ within depth (run.height s x p) (x, rest)
  unfolding default_at
  default_again depth s rest x h (inl p) apart = rw (p.0, apart) (ap (λ (z : X). Ok (z, rest)) (sym p.1) ∙ sym (within_none depth (x, rest)))
  default_again depth s rest x h (inr p) apart =
      let next : stands_next test (s ++ rest) ≡ true = next_begins test f.begins s rest wide (law.first s x h p) in
      rw next (law.again depth s rest x h p)

  default_first : (s : List ℕ) (x : X) → f.in_form x → run.Spells s x → NoneOrBegins f.begins s
  default_first s x h (inl p) = inl p.0
  default_first s x h (inr p) = inr (law.first s x h p)

  default_readable : ReadableFields run
  default_readable = record { one_way = default_one_way; takes = default_takes; again = default_again; first = default_first }

module _ {X : Type 0} (d : X) (left_out : X → Bool) (is_default : (x : X) → left_out x ≡ true → x ≡ d) (f : Form X) (law : Writable f) where
  d_encodes : (b : Bool) (s : List ℕ) (x : X) → (b ≡ true → x ≡ d) → f.in_form x → Unless b (s ≡ []) (f.Encodes s x) → ((s ≡ []) × (x ≡ d)) ⊎ f.Spells s x
  d_encodes true s x k h p = inl (p, k refl)
  d_encodes false s x k h p = inr (law.encodes s x h p)

  d_is : (b : Bool) (s : List ℕ) (x : X) → Unless b (s ≡ []) (f.Encodes s x) → s ≡ cond b [] (f.encoding x)
  d_is true s x p = p
  d_is false s x p = law.is_encoding s x p

  d_has : (b : Bool) (x : X) → f.in_form x → length (cond b [] (f.encoding x)) < 2 ^ 64 → Unless b (cond b [] (f.encoding x) ≡ []) (f.Encodes (cond b [] (f.encoding x)) x)
  d_has true x h fits = refl
  d_has false x h fits = law.has_encoding x h fits

  d_not : (b : Bool) (s : List ℕ) (x : X) → Unless b (s ≡ []) (f.Encodes s x) → Unless b ⊥ (f.Refused x) → ⊥
  d_not true s x p r = r
  d_not false s x p r = law.not_refused s x p r

  d_accepted : (b : Bool) (x : X) → f.in_form x → Unless b ⊥ (f.Refused x) → ⊥
  d_accepted true x h r = r
  d_accepted false x h r = law.accepted x h r

  default_writable : (test : ℕ → Bool) → WritableFields (defaulting d left_out test f)
  default_writable test = record {
    encodes = λ s x h p. d_encodes (left_out x) s x (is_default x) h p;
    is_encoding = λ s x p. d_is (left_out x) s x p;
    has_encoding = λ x h fits. d_has (left_out x) x h fits;
    not_refused = λ s x p r. d_not (left_out x) s x p r;
    accepted = λ x h r. d_accepted (left_out x) x h r;
  }

pub defaulting_lawful : {X : Type 0} {f : Form X} {d : X} {left_out : X → Bool} {test : ℕ → Bool} → ((x : X) → left_out x ≡ true → x ≡ d) → ((b : ℕ) → f.begins b ≡ true → test b ≡ true) → f.in_form d → Lawful f → LawfulFields (defaulting d left_out test f)
defaulting_lawful {f = f} {d = d} {left_out = left_out} {test = test} is_default wide formed law =
    record { readable = default_readable d left_out test f wide formed law.readable; writable = default_writable d left_out is_default f law.writable test }

pub defaulted_lawful : {X : Type 0} {f : Form X} {d : X} {is_default : X → Bool} → ((x : X) → is_default x ≡ true → x ≡ d) → f.in_form d → Lawful f → LawfulFields (defaulted d is_default f)
defaulted_lawful is_default formed law = defaulting_lawful is_default (λ _ h. h) formed law

pub null_or_none_lawful : LawfulFields null_or_none
null_or_none_lawful = defaulting_lawful {left_out = λ _. false} {test = any_tag} (λ _ _. refl) (λ _ _. refl) tt null_lawful
