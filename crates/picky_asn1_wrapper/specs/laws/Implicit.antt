-- The laws of one value under another tag.
use Rattle.std.proofs.Common.{◌≡◌, ◌≢◌, ℕ, ◌%◌, ◌^◌, ◌<◌, eqb, List, [], ◌∷◌, ◌++◌, length, drop, Ok, Err, refl, sym, ap, subst, ◌∙◌, arith}
use Rattle.std.proofs.lemmas.Bool.{eqb-true}
use Rattle.std.proofs.lemmas.List.{append-nil, length-drop}
use Rattle.picky_asn1_tag.specs.declared.tag.Tag.{Tag}
use Rattle.picky_der.specs.declared.fault.DerError.TheVariants.{Truncated}
use Rattle.picky_der.specs.Length.{TailIsBytes, length_of, value_of}
use Rattle.picky_der.specs.Reading.{◌>>=◌, within, value_at, raw_at}
use Rattle.picky_der.specs.Form.{Form, Readable, Writable, Appends, Tagged, IsValue, IsOneValue, BeginsBy, Takes}
use Rattle.picky_der.specs.laws.Steps.{ok_is, bind_ok, pair_fst, pair_snd}
use Rattle.picky_der.specs.laws.Depth.{within_next}
use Rattle.picky_der.specs.laws.Lengths.{IsBytes-front}
use Rattle.picky_der.specs.laws.Headers.{IsValue-same, IsValue-again, value_takes, value_shorter, raw_again, eqb_same}
use Rattle.picky_der.specs.laws.Prefixes.{Stays, kept_fault, then_stays, value_goes_on, value_stays, value_cut}
use Rattle.picky_der.specs.laws.Whole.{again_alone}
use Rattle.picky_asn1_wrapper.specs.Implicit.{implicit_at, SpellsImplicit, implicit_form}

-- a value with its tag replaced
retag : (outer : Tag) (inner : ℕ) (c : List ℕ) → outer.0 ∷ drop 1 (value_of inner c) ≡ value_of outer.0 c
unfolding value_of
retag outer inner c = refl

-- the bytes after the tag are the same
TailIsBytes-retag : (outer inner : ℕ) (c rest : List ℕ) → TailIsBytes (value_of outer c ++ rest) → TailIsBytes (value_of inner c)
unfolding value_of
TailIsBytes-retag outer inner c rest h = IsBytes-front (length_of (length c) ++ c) rest h

-- a value that begins with the tag is of the tag
tag_of-value : (tag : Tag) (c s : List ℕ) (v : Tag) → IsValue v c s → BeginsBy (λ b. eqb b tag.0) s → v.0 ≡ tag.0
unfolding value_of
tag_of-value tag c s v p h = eqb-true v.0 tag.0 (subst (BeginsBy (λ b. eqb b tag.0)) p.bytes_are h)

-- one value in front of nothing but itself
one_only : (s t rest : List ℕ) → IsOneValue s → IsOneValue t → s ≡ t ++ rest → (t ≡ s) × (rest ≡ [])
one_only s t rest p q e =
    let same = ok_is (s, []) (t, rest) (sym (rw append-nil at (raw_again s [] p)) ∙ ap raw_at e ∙ raw_again t rest q) in
    (sym (pair_fst _ _ same), sym (pair_snd _ _ same))

module _ {X : Type 0} (f : Form X) (law : Readable f) (outer inner : Tag) (one_byte : outer.0 % 32 ≢ 31) where
  module _ (tagged : Tagged inner f) where
    retagged : (s : List ℕ) (x : X) → f.in_form x → (p : SpellsImplicit outer f.Spells s x) → (c : List ℕ) × IsValue outer c s × (p.spelling ≡ value_of inner.0 c)
    retagged s x formed p =
        let v = law.one_value p.spelling x formed p.spelled in
        let t : v.tag.0 ≡ inner.0 = tag_of-value inner v.contents p.spelling v.tag v.value (tagged.first p.spelling x formed p.spelled) in
        let whole : p.spelling ≡ value_of inner.0 v.contents = v.value.bytes_are ∙ ap (λ (b : ℕ). value_of b v.contents) t in
        let bytes : s ≡ value_of outer.0 v.contents = p.bytes_are ∙ ap (λ (r : List ℕ). outer.0 ∷ drop 1 r) whole ∙ retag outer inner.0 v.contents in
        (v.contents, record { one_byte = one_byte; fits = v.value.fits; bytes_are = bytes }, whole)

    implicit_taken : (bytes c rest : List ℕ) (x : X) (t : Takes f.in_form f.Spells (value_of inner.0 c) x rest) (u : List ℕ) → IsValue outer c (value_of outer.0 c) → inner.0 % 32 ≢ 31 → bytes ≡ value_of outer.0 c ++ u → Takes f.in_form (SpellsImplicit outer f.Spells) bytes x u
    implicit_taken bytes c rest x t u v inner_one parts =
        let whole : IsOneValue (value_of inner.0 c) = record { tag = inner; contents = c; value = record { one_byte = inner_one; fits = v.fits; bytes_are = refl } } in
        let k = one_only (value_of inner.0 c) t.spelling rest whole (law.one_value t.spelling x t.formed t.spelled) t.parts in
        record {
          formed = t.formed;
          spelling = value_of outer.0 c;
          spelled = record { spelling = t.spelling; spelled = t.spelled; bytes_are = sym (retag outer inner.0 c) ∙ ap (λ (s : List ℕ). outer.0 ∷ drop 1 s) (sym k.0) };
          parts = parts;
        }

    module _ (inner_one : inner.0 % 32 ≢ 31) where
      implicit_takes : (depth : ℕ) (bytes : List ℕ) (x : X) (rest : List ℕ) → TailIsBytes bytes → implicit_at outer inner f.reading depth bytes ≡ Ok (x, rest) → Takes f.in_form (SpellsImplicit outer f.Spells) bytes x rest
      unfolding implicit_at
      implicit_takes depth bytes x rest fits e =
          let v = bind_ok (value_at outer bytes) (λ v. f.reading depth (value_of inner.0 v.0) >>= λ x. Ok (x.0, v.1)) (x, rest) e in
          let w = bind_ok (f.reading depth (value_of inner.0 v.0.0)) (λ x. Ok (x.0, v.0.1)) (x, rest) v.2 in
          let t = value_takes outer bytes v.0.0 v.0.1 fits v.1 in
          let copy = TailIsBytes-retag outer.0 inner.0 v.0.0 v.0.1 (subst TailIsBytes t.1 fits) in
          let k = law.takes depth (value_of inner.0 v.0.0) w.0.0 w.0.1 copy w.1 in
          let same = ok_is (w.0.0, v.0.1) (x, rest) w.2 in
          subst (λ (p : X × List ℕ). Takes f.in_form (SpellsImplicit outer f.Spells) bytes p.0 p.1) same
          (implicit_taken bytes v.0.0 w.0.1 w.0.0 k v.0.1 t.0 inner_one t.1)

      implicit_again : (depth : ℕ) (s rest : List ℕ) (x : X) → f.in_form x → (p : SpellsImplicit outer f.Spells s x) → implicit_at outer inner f.reading depth (s ++ rest) ≡ within depth (f.height p.spelling x p.spelled) (x, rest)
      unfolding implicit_at
      implicit_again depth s rest x formed p =
          let r = retagged s x formed p in
          let height = f.height p.spelling x p.spelled in
          let own : f.reading depth (value_of inner.0 r.0) ≡ within depth height (x, []) = ap (f.reading depth) (sym r.2) ∙ again_alone f law depth p.spelling x formed p.spelled in
          rw (IsValue-again outer r.0 s rest r.1, own) (within_next depth height (x, []) (x, rest) (λ v. Ok (v.0, rest)) refl)

      implicit_shorter : (depth : ℕ) (bytes : List ℕ) (x : X) (rest : List ℕ) → implicit_at outer inner f.reading depth bytes ≡ Ok (x, rest) → length rest < length bytes
      unfolding implicit_at
      implicit_shorter depth bytes x rest e =
          let v = bind_ok (value_at outer bytes) (λ v. f.reading depth (value_of inner.0 v.0) >>= λ x. Ok (x.0, v.1)) (x, rest) e in
          let w = bind_ok (f.reading depth (value_of inner.0 v.0.0)) (λ x. Ok (x.0, v.0.1)) (x, rest) v.2 in
          omega (arith, value_shorter outer bytes v.0.0 v.0.1 v.1, ap length (pair_snd _ _ (ok_is (w.0.0, v.0.1) (x, rest) w.2)))

      implicit_prefix_free : (x y : X) (s t a b : List ℕ) → f.in_form x → f.in_form y → SpellsImplicit outer f.Spells s x → SpellsImplicit outer f.Spells t y → s ++ a ≡ t ++ b → (s ≡ t) × (x ≡ y)
      implicit_prefix_free x y s t a b g h p q e =
          let u = retagged s x g p in
          let w = retagged t y h q in
          let k = IsValue-same outer u.0 w.0 s t a b u.1 w.1 e in
          let spellings : p.spelling ≡ q.spelling = u.2 ∙ ap (value_of inner.0) k.1 ∙ sym w.2 in
          (k.0, (law.prefix_free x y p.spelling q.spelling [] [] g h p.spelled q.spelled (ap (λ (r : List ℕ). r ++ []) spellings)).1)

      implicit_cut : (depth : ℕ) (front back : List ℕ) (x : X) → f.in_form x → SpellsImplicit outer f.Spells (front ++ back) x → back ≢ [] → implicit_at outer inner f.reading depth front ≡ Err Truncated
      unfolding implicit_at
      implicit_cut depth front back x formed p some =
          let r = retagged (front ++ back) x formed p in
          rw (value_cut outer r.0 front back r.1 some) refl

      implicit_stays : (depth : ℕ) → Stays (implicit_at outer inner f.reading depth)
      unfolding implicit_at
      implicit_stays depth =
          then_stays (value_at outer) (λ v. f.reading depth (value_of inner.0 v.0) >>= λ x. Ok (x.0, v.1)) (value_goes_on outer) (value_stays outer)
          (λ c rest other e h. kept_fault (f.reading depth (value_of inner.0 c)) (λ x. x.0) rest other e h)

      pub implicit_readable : Readable (implicit_form outer inner f)
      implicit_readable = record {
        one_value = λ s x g p. let r = retagged s x g p in record { tag = outer; contents = r.0; value = r.1 };
        prefix_free = implicit_prefix_free;
        takes = implicit_takes;
        again = implicit_again;
        shorter = implicit_shorter;
        first = λ s x _ p. rw p.bytes_are (eqb_same outer.0);
        cut = implicit_cut;
        stays = implicit_stays;
      }

pub implicit_writable : {X : Type 0} (f : Form X) (law : Writable f) (outer inner : Tag) → outer.0 % 32 ≢ 31 → Writable (implicit_form outer inner f)
implicit_writable f law outer inner one_byte = record {
  encodes = λ s x h p. record { spelling = p.spelling; spelled = law.encodes p.spelling x h p.spelled; bytes_are = p.bytes_are };
  written = λ s x p.
      let v = law.written p.spelling x p.spelled in
      record { tag = outer; contents = v.contents; value = record { one_byte = one_byte; fits = v.value.fits; bytes_are = p.bytes_are ∙ ap (λ (r : List ℕ). outer.0 ∷ drop 1 r) v.value.bytes_are ∙ retag outer v.tag.0 v.contents } };
  is_encoding = λ s x p. p.bytes_are ∙ ap (λ (r : List ℕ). outer.0 ∷ drop 1 r) (law.is_encoding p.spelling x p.spelled);
  has_encoding = λ x formed fits.
      let same : length (f.encoding x) < 2 ^ 64 = omega (arith, length-drop 1 (f.encoding x)) in
      record { spelling = f.encoding x; spelled = law.has_encoding x formed same; bytes_are = refl };
  not_refused = λ s x p r. law.not_refused p.spelling x p.spelled r;
  accepted = law.accepted;
}

pub implicit_tagged : {X : Type 0} (f : Form X) (outer inner : Tag) → Tagged outer (implicit_form outer inner f)
implicit_tagged f outer inner = record {
  first = λ s x _ p. rw p.bytes_are (eqb_same outer.0);
  no_other = λ b. refl;
}

-- an encoding that was added to nothing has a byte
pub written-some : {X : Type 0} (f : Form X) (law : Writable f) (old new : List ℕ) (x : X) → old ≡ [] → Appends (λ s. f.Encodes s x) old new → 0 < length new
unfolding value_of
written-some f law old new x none a =
    let v = law.written a.encoding x a.encoded in
    let bytes : new ≡ value_of v.tag.0 v.contents = a.new_is ∙ ap (λ (t : List ℕ). t ++ a.encoding) none ∙ v.value.bytes_are in
    rw bytes (omega arith)
