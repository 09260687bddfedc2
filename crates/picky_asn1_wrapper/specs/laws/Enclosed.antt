-- The laws of one value in another.
use Rattle.std.proofs.Common.{◌≡◌, ◌≢◌, ℕ, ◌+◌, ◌%◌, ◌^◌, ◌<◌, eqb, List, [], ◌∷◌, ◌++◌, length, Ok, Err, refl, ap, subst, ◌∙◌, arith, inl, inr}
use Rattle.picky_asn1_tag.specs.declared.tag.Tag.{Tag}
use Rattle.picky_der.specs.declared.fault.DerError.{DerError}
use Rattle.picky_der.specs.declared.fault.DerError.TheVariants.{Truncated}
use Rattle.picky_der.specs.Length.{IsBytes, TailIsBytes, value_of}
use Rattle.picky_der.specs.Reading.{◌>>=◌, within, nested_at, nested_bits_at, end_at}
use Rattle.picky_der.specs.Form.{Form, Readable, Writable, Tagged, IsValue, Takes, NestsAtMost}
use Rattle.picky_der.specs.laws.Steps.{ok_is, bind_ok, pair_fst, pair_snd}
use Rattle.picky_der.specs.laws.Depth.{within_inner}
use Rattle.picky_der.specs.laws.Lengths.{IsBytes-rest, TailIsBytes-of}
use Rattle.picky_der.specs.laws.Headers.{IsValue-same, IsValue-of, length-value_of, IsBytes-contents, BeginsBy-value, nested_again, nested_takes, nested_shorter, nested_bits_again, nested_bits_takes, nested_bits_shorter, end_takes, eqb_same}
use Rattle.picky_der.specs.laws.Prefixes.{Stays, bind_err, kept_fault, then_stays, nested_goes_on, nested_stays, nested_cut, nested_bits_goes_on, nested_bits_stays, nested_bits_cut}
use Rattle.picky_der.specs.laws.Whole.{taken_whole, alone_made}
use Rattle.picky_asn1_wrapper.specs.Enclosed.{alone_in, enclosed_at, SpellsEnclosed, enclosed_form, bits_at, SpellsBits, bits_form}

module _ {X : Type 0} (f : Form X) (law : Readable f) where
  -- ---- one value up to the end

  alone_takes : (depth : ℕ) (c r : List ℕ) (x : X) (rest : List ℕ) → IsBytes c → alone_in (f.reading depth) (c, r) ≡ Ok (x, rest) → f.in_form x × f.Spells c x × (r ≡ rest)
  alone_takes depth c r x rest fits e =
      let w = bind_ok (f.reading depth c) (λ x. end_at x.1 >>= λ _. Ok (x.0, r)) (x, rest) e in
      let n = bind_ok (end_at w.0.1) (λ _. Ok (w.0.0, r)) (x, rest) w.2 in
      let k = law.takes depth c w.0.0 w.0.1 (TailIsBytes-of c fits) w.1 in
      let same = ok_is (w.0.0, r) (x, rest) n.2 in
      let whole = taken_whole f law c k.spelling w.0.1 w.0.0 x k.formed k.spelled k.parts (end_takes w.0.1 n.0 n.1) (pair_fst _ _ same) in
      (whole.0, whole.1, pair_snd _ _ same)

  alone_again : (depth : ℕ) (c rest : List ℕ) (x : X) → f.in_form x → (p : f.Spells c x) → alone_in (f.reading depth) (c, rest) ≡ within depth (f.height c x p) (x, rest)
  alone_again depth c rest x formed p = alone_made f law depth c x (λ y. (y, rest)) formed p

  -- a fault in the contents is the same whatever bytes are behind
  alone_kept : (depth : ℕ) (c rest other : List ℕ) (e : DerError) → alone_in (f.reading depth) (c, rest) ≡ Err e → alone_in (f.reading depth) (c, other) ≡ Err e
  alone_kept depth c rest other e h =
      elim (bind_err (f.reading depth c) (λ x. end_at x.1 >>= λ _. Ok (x.0, rest)) e h) [
        | inl k ↦ rw k refl
        | inr k ↦ rw k.1 (kept_fault (end_at k.0.1) (λ _. k.0.0) rest other e k.2)
      ]

  -- two spellings of the same bytes are of one value
  same_value : (c d : List ℕ) (x y : X) → f.in_form x → f.in_form y → f.Spells c x → f.Spells d y → c ≡ d → x ≡ y
  same_value c d x y g h p q e = (law.prefix_free x y c d [] [] g h p q (ap (λ (t : List ℕ). t ++ []) e)).1

  module _ (tag : Tag) where
    -- ---- a value in a value

    enclosed_taken : (bytes c r rest : List ℕ) (x : X) → IsValue tag c (value_of tag.0 c) → bytes ≡ value_of tag.0 c ++ r → f.in_form x → f.Spells c x → r ≡ rest → Takes f.in_form (SpellsEnclosed tag f.Spells) bytes x rest
    enclosed_taken bytes c r rest x v parts formed spelled same =
        record { formed = formed; spelling = value_of tag.0 c; spelled = record { contents = c; value = v; inner = spelled }; parts = parts ∙ ap (λ (t : List ℕ). value_of tag.0 c ++ t) same }

    enclosed_takes : (depth : ℕ) (bytes : List ℕ) (x : X) (rest : List ℕ) → TailIsBytes bytes → enclosed_at tag f.reading depth bytes ≡ Ok (x, rest) → Takes f.in_form (SpellsEnclosed tag f.Spells) bytes x rest
    unfolding enclosed_at
    enclosed_takes depth bytes x rest fits e =
        let v = bind_ok (nested_at tag depth bytes) (λ v. alone_in (f.reading (depth + 1)) v) (x, rest) e in
        let t = nested_takes tag depth bytes v.0.0 v.0.1 fits v.1 in
        let k = alone_takes (depth + 1) v.0.0 v.0.1 x rest (IsBytes-contents tag.0 v.0.0 v.0.1 (subst TailIsBytes t.1 fits)) v.2 in
        enclosed_taken bytes v.0.0 v.0.1 rest x t.0 t.1 k.0 k.1 k.2

    enclosed_again : (depth : ℕ) (s rest : List ℕ) (x : X) → f.in_form x → (p : SpellsEnclosed tag f.Spells s x) → enclosed_at tag f.reading depth (s ++ rest) ≡ within depth (1 + f.height p.contents x p.inner) (x, rest)
    unfolding enclosed_at
    enclosed_again depth s rest x formed p =
        rw (nested_again tag depth p.contents s rest p.value)
        (within_inner depth (f.height p.contents x p.inner) (p.contents, rest) (x, rest) (λ v. alone_in (f.reading (depth + 1)) v) (alone_again (depth + 1) p.contents rest x formed p.inner))

    enclosed_shorter : (depth : ℕ) (bytes : List ℕ) (x : X) (rest : List ℕ) → enclosed_at tag f.reading depth bytes ≡ Ok (x, rest) → length rest < length bytes
    unfolding enclosed_at
    enclosed_shorter depth bytes x rest e =
        let v = bind_ok (nested_at tag depth bytes) (λ v. alone_in (f.reading (depth + 1)) v) (x, rest) e in
        let w = bind_ok (f.reading (depth + 1) v.0.0) (λ x. end_at x.1 >>= λ _. Ok (x.0, v.0.1)) (x, rest) v.2 in
        let n = bind_ok (end_at w.0.1) (λ _. Ok (w.0.0, v.0.1)) (x, rest) w.2 in
        omega (arith, nested_shorter tag depth bytes v.0.0 v.0.1 v.1, ap length (pair_snd _ _ (ok_is (w.0.0, v.0.1) (x, rest) n.2)))

    enclosed_cut : (depth : ℕ) (front back : List ℕ) (x : X) → f.in_form x → SpellsEnclosed tag f.Spells (front ++ back) x → back ≢ [] → enclosed_at tag f.reading depth front ≡ Err Truncated
    unfolding enclosed_at
    enclosed_cut depth front back x formed p some = rw (nested_cut tag depth p.contents front back p.value some) refl

    enclosed_stays : (depth : ℕ) → Stays (enclosed_at tag f.reading depth)
    unfolding enclosed_at
    enclosed_stays depth =
        then_stays (nested_at tag depth) (λ v. alone_in (f.reading (depth + 1)) v) (nested_goes_on tag depth) (nested_stays tag depth) (alone_kept (depth + 1))

    pub enclosed_readable : Readable (enclosed_form tag f)
    enclosed_readable = record {
      one_value = λ s x _ p. record { tag = tag; contents = p.contents; value = p.value };
      prefix_free = λ x y s t a b g h p q e.
          let k = IsValue-same tag p.contents q.contents s t a b p.value q.value e in
          (k.0, same_value p.contents q.contents x y g h p.inner q.inner k.1);
      takes = enclosed_takes;
      again = enclosed_again;
      shorter = enclosed_shorter;
      first = λ s x _ p. BeginsBy-value (λ b. eqb b tag.0) tag p.contents s (eqb_same tag.0) p.value;
      cut = enclosed_cut;
      stays = enclosed_stays;
    }

    -- ---- a value in a BIT STRING

    bits_taken : (bytes c r rest : List ℕ) (x : X) → IsValue tag (0 ∷ c) (value_of tag.0 (0 ∷ c)) → bytes ≡ value_of tag.0 (0 ∷ c) ++ r → f.in_form x → f.Spells c x → r ≡ rest → Takes f.in_form (SpellsBits tag f.Spells) bytes x rest
    bits_taken bytes c r rest x v parts formed spelled same =
        record { formed = formed; spelling = value_of tag.0 (0 ∷ c); spelled = record { contents = c; value = v; inner = spelled }; parts = parts ∙ ap (λ (t : List ℕ). value_of tag.0 (0 ∷ c) ++ t) same }

    bits_takes : (depth : ℕ) (bytes : List ℕ) (x : X) (rest : List ℕ) → TailIsBytes bytes → bits_at tag f.reading depth bytes ≡ Ok (x, rest) → Takes f.in_form (SpellsBits tag f.Spells) bytes x rest
    unfolding bits_at
    bits_takes depth bytes x rest fits e =
        let v = bind_ok (nested_bits_at tag depth bytes) (λ v. alone_in (f.reading (depth + 1)) v) (x, rest) e in
        let t = nested_bits_takes tag depth bytes v.0.0 v.0.1 fits v.1 in
        let k = alone_takes (depth + 1) v.0.0 v.0.1 x rest (IsBytes-rest 0 v.0.0 (IsBytes-contents tag.0 (0 ∷ v.0.0) v.0.1 (subst TailIsBytes t.1 fits))) v.2 in
        bits_taken bytes v.0.0 v.0.1 rest x t.0 t.1 k.0 k.1 k.2

    bits_again : (depth : ℕ) (s rest : List ℕ) (x : X) → f.in_form x → (p : SpellsBits tag f.Spells s x) → bits_at tag f.reading depth (s ++ rest) ≡ within depth (1 + f.height p.contents x p.inner) (x, rest)
    unfolding bits_at
    bits_again depth s rest x formed p =
        rw (nested_bits_again tag depth p.contents s rest p.value)
        (within_inner depth (f.height p.contents x p.inner) (p.contents, rest) (x, rest) (λ v. alone_in (f.reading (depth + 1)) v) (alone_again (depth + 1) p.contents rest x formed p.inner))

    bits_shorter : (depth : ℕ) (bytes : List ℕ) (x : X) (rest : List ℕ) → bits_at tag f.reading depth bytes ≡ Ok (x, rest) → length rest < length bytes
    unfolding bits_at
    bits_shorter depth bytes x rest e =
        let v = bind_ok (nested_bits_at tag depth bytes) (λ v. alone_in (f.reading (depth + 1)) v) (x, rest) e in
        let w = bind_ok (f.reading (depth + 1) v.0.0) (λ x. end_at x.1 >>= λ _. Ok (x.0, v.0.1)) (x, rest) v.2 in
        let n = bind_ok (end_at w.0.1) (λ _. Ok (w.0.0, v.0.1)) (x, rest) w.2 in
        omega (arith, nested_bits_shorter tag depth bytes v.0.0 v.0.1 v.1, ap length (pair_snd _ _ (ok_is (w.0.0, v.0.1) (x, rest) n.2)))

    same_rest : (c d : List ℕ) → 0 ∷ c ≡ 0 ∷ d → c ≡ d
    same_rest c d e = cc

    bits_cut : (depth : ℕ) (front back : List ℕ) (x : X) → f.in_form x → SpellsBits tag f.Spells (front ++ back) x → back ≢ [] → bits_at tag f.reading depth front ≡ Err Truncated
    unfolding bits_at
    bits_cut depth front back x formed p some = rw (nested_bits_cut tag depth p.contents front back p.value some) refl

    bits_stays : (depth : ℕ) → Stays (bits_at tag f.reading depth)
    unfolding bits_at
    bits_stays depth =
        then_stays (nested_bits_at tag depth) (λ v. alone_in (f.reading (depth + 1)) v) (nested_bits_goes_on tag depth) (nested_bits_stays tag depth) (alone_kept (depth + 1))

    pub bits_readable : Readable (bits_form tag f)
    bits_readable = record {
      one_value = λ s x _ p. record { tag = tag; contents = 0 ∷ p.contents; value = p.value };
      prefix_free = λ x y s t a b g h p q e.
          let k = IsValue-same tag (0 ∷ p.contents) (0 ∷ q.contents) s t a b p.value q.value e in
          (k.0, same_value p.contents q.contents x y g h p.inner q.inner (same_rest p.contents q.contents k.1));
      takes = bits_takes;
      again = bits_again;
      shorter = bits_shorter;
      first = λ s x _ p. BeginsBy-value (λ b. eqb b tag.0) tag (0 ∷ p.contents) s (eqb_same tag.0) p.value;
      cut = bits_cut;
      stays = bits_stays;
    }

module _ {X : Type 0} (f : Form X) (law : Writable f) (tag : Tag) (one_byte : tag.0 % 32 ≢ 31) where
  pub enclosed_writable : Writable (enclosed_form tag f)
  enclosed_writable = record {
    encodes = λ s x h p. record { contents = p.contents; value = p.value; inner = law.encodes p.contents x h p.inner };
    written = λ s x p. record { tag = tag; contents = p.contents; value = p.value };
    is_encoding = λ s x p. p.value.bytes_are ∙ ap (value_of tag.0) (law.is_encoding p.contents x p.inner);
    has_encoding = λ x formed fits.
        let inner : length (f.encoding x) < 2 ^ 64 = omega (arith, length-value_of tag.0 (f.encoding x)) in
        record { contents = f.encoding x; value = IsValue-of tag (f.encoding x) one_byte fits; inner = law.has_encoding x formed inner };
    not_refused = λ s x p r. law.not_refused p.contents x p.inner r;
    accepted = law.accepted;
  }

  pub bits_writable : Writable (bits_form tag f)
  bits_writable = record {
    encodes = λ s x h p. record { contents = p.contents; value = p.value; inner = law.encodes p.contents x h p.inner };
    written = λ s x p. record { tag = tag; contents = 0 ∷ p.contents; value = p.value };
    is_encoding = λ s x p. p.value.bytes_are ∙ ap (λ (c : List ℕ). value_of tag.0 (0 ∷ c)) (law.is_encoding p.contents x p.inner);
    has_encoding = λ x formed fits.
        let inner : length (f.encoding x) < 2 ^ 64 = omega (arith, length-value_of tag.0 (0 ∷ f.encoding x)) in
        record { contents = f.encoding x; value = IsValue-of tag (0 ∷ f.encoding x) one_byte fits; inner = law.has_encoding x formed inner };
    not_refused = λ s x p r. law.not_refused p.contents x p.inner r;
    accepted = law.accepted;
  }

pub enclosed_tagged : {X : Type 0} (f : Form X) (tag : Tag) → Tagged tag (enclosed_form tag f)
enclosed_tagged f tag = record {
  first = λ s x _ p. BeginsBy-value (λ b. eqb b tag.0) tag p.contents s (eqb_same tag.0) p.value;
  no_other = λ b. refl;
}

pub bits_tagged : {X : Type 0} (f : Form X) (tag : Tag) → Tagged tag (bits_form tag f)
bits_tagged f tag = record {
  first = λ s x _ p. BeginsBy-value (λ b. eqb b tag.0) tag (0 ∷ p.contents) s (eqb_same tag.0) p.value;
  no_other = λ b. refl;
}

-- the numbers of context tags are below 31
pub explicit_one_byte : (n : ℕ) → (160 + n % 16) % 32 ≢ 31
explicit_one_byte n h = omega arith

pub implicit_one_byte : (n : ℕ) → (128 + n % 16) % 32 ≢ 31
implicit_one_byte n h = omega arith

-- ---- heights

module _ {X : Type 0} (f : Form X) (most : ℕ) (inner : NestsAtMost most f) (tag : Tag) where
  pub enclosed_nests : NestsAtMost (1 + most) (enclosed_form tag f)
  enclosed_nests s x p = omega (arith, inner p.contents x p.inner)

  pub bits_nests : NestsAtMost (1 + most) (bits_form tag f)
  bits_nests s x p = omega (arith, inner p.contents x p.inner)
