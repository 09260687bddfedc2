-- The laws of SEQUENCE OF and SET OF.
use Rattle.std.proofs.Common.{◌≡◌, ◌≢◌, ℕ, zero, suc, ◌+◌, ◌%◌, ◌^◌, ◌<◌, ◌≤◌, eqb, List, [], ◌∷◌, ◌++◌, length, Ok, Err, refl, sym, ap, subst, ◌∙◌, arith, inl, inr}
use Rattle.std.proofs.Math.Nat.{max-le}
use Rattle.std.specs.List.{flat_map}
use Rattle.std.proofs.lemmas.List.{length-append, append_cancel_left}
use Rattle.picky_asn1_tag.specs.declared.tag.Tag.{Tag}
use Rattle.picky_der.specs.declared.fault.DerError.TheVariants.{Truncated}
use Rattle.picky_der.specs.Length.{IsBytes, TailIsBytes, value_of}
use Rattle.picky_der.specs.Reading.{◌>>=◌, within, nested_at}
use Rattle.picky_der.specs.Form.{Form, Readable, Writable, Tagged, IsValue, BeginsBy, Takes, IsWrittenInForm, NestsAtMost}
use Rattle.picky_der.specs.laws.Steps.{ok_is, bind_ok, pair_snd}
use Rattle.picky_der.specs.laws.Depth.{within_none, within_next, within_then, within_inner}
use Rattle.picky_der.specs.laws.Lengths.{IsBytes-after, TailIsBytes-of}
use Rattle.picky_der.specs.laws.Headers.{IsValue-same, IsValue-of, length-value_of, IsBytes-contents, BeginsBy-value, nested_again, nested_takes, nested_shorter, eqb_same}
use Rattle.picky_der.specs.laws.Prefixes.{Stays, kept_fault, then_stays, nested_goes_on, nested_stays, nested_cut}
use Rattle.picky_asn1_wrapper.specs.Lists.{SpellsAll, greatest, AllFormed, SomeRefused, items_at, list_at, SpellsList, list_form}

some_byte : (test : ℕ → _) (s : List ℕ) → BeginsBy test s → 0 < length s
some_byte test [] h = absurd h
some_byte test (b ∷ bs) h = omega arith

module _ {X : Type 0} (f : Form X) (law : Readable f) where
  -- ---- values one after another

  items_takes : (depth : ℕ) (most : ℕ) (bytes : List ℕ) (xs : List X) → IsBytes bytes → items_at (f.reading depth) most bytes ≡ Ok xs → AllFormed f.in_form xs × SpellsAll f.Spells bytes xs
  items_takes depth most [] xs fits e = subst (λ (ys : List X). AllFormed f.in_form ys × SpellsAll f.Spells [] ys) (ok_is [] xs e) (tt, refl)
  items_takes depth zero (b ∷ bs) xs fits e = absurd cc
  items_takes depth (suc most) (b ∷ bs) xs fits e =
      let v = bind_ok (f.reading depth (b ∷ bs)) (λ x. items_at (f.reading depth) most x.1 >>= λ xs. Ok (x.0 ∷ xs)) xs e in
      let w = bind_ok (items_at (f.reading depth) most v.0.1) (λ xs. Ok (v.0.0 ∷ xs)) xs v.2 in
      let t = law.takes depth (b ∷ bs) v.0.0 v.0.1 (TailIsBytes-of (b ∷ bs) fits) v.1 in
      let rest-fits = IsBytes-after t.spelling v.0.1 (subst IsBytes t.parts fits) in
      let k = items_takes depth most v.0.1 w.0 rest-fits w.1 in
      subst (λ (ys : List X). AllFormed f.in_form ys × SpellsAll f.Spells (b ∷ bs) ys) (ok_is (v.0.0 ∷ w.0) xs w.2) ((t.formed, k.0), (t.spelling, v.0.1, t.parts, t.spelled, k.1))

  items_again : (depth : ℕ) (most : ℕ) (bytes : List ℕ) (xs : List X) → length bytes ≤ most → AllFormed f.in_form xs → (p : SpellsAll f.Spells bytes xs) → items_at (f.reading depth) most bytes ≡ within depth (greatest f.height bytes xs p) xs
  items_again depth most bytes [] long formed spelled = rw spelled (sym (within_none depth []))
  items_again depth most [] (x ∷ xs) long formed spelled = absurd (let some = some_byte f.begins spelled.0 (law.first spelled.0 x formed.0 spelled.3) in omega (arith, length-append spelled.0 spelled.1, ap length spelled.2))
  items_again depth zero (b ∷ bs) (x ∷ xs) long formed spelled = absurd (omega arith)
  items_again depth (suc most) (b ∷ bs) (x ∷ xs) long formed spelled =
      let one = spelled.0 in
      let more = spelled.1 in
      let some = some_byte f.begins one (law.first one x formed.0 spelled.3) in
      let height = f.height one x spelled.3 in
      let heights = greatest f.height more xs spelled.4 in
      let h : f.reading depth (b ∷ bs) ≡ within depth height (x, more) = ap (f.reading depth) spelled.2 ∙ law.again depth one more x formed.0 spelled.3 in
      let shorter : length more ≤ most = omega (arith, length-append one more, ap length spelled.2) in
      let k : (items_at (f.reading depth) most more >>= λ ys. Ok (x ∷ ys)) ≡ within depth heights (x ∷ xs) =
      rw (items_again depth most more xs shorter formed.1 spelled.4) (within_next depth heights xs (x ∷ xs) (λ ys. Ok (x ∷ ys)) refl) in
      rw h (within_then depth height heights (x, more) (x ∷ xs) (λ v. items_at (f.reading depth) most v.1 >>= λ ys. Ok (v.0 ∷ ys)) k)

  items_same : (xs ys : List X) (s t : List ℕ) → s ≡ t → AllFormed f.in_form xs → AllFormed f.in_form ys → SpellsAll f.Spells s xs → SpellsAll f.Spells t ys → xs ≡ ys
  items_same [] [] s t e h g p q = refl
  items_same [] (y ∷ ys) s t e h g p q = absurd (let some = some_byte f.begins q.0 (law.first q.0 y g.0 q.3) in omega (arith, length-append q.0 q.1, ap length (sym q.2 ∙ sym e ∙ p)))
  items_same (x ∷ xs) [] s t e h g p q = absurd (let some = some_byte f.begins p.0 (law.first p.0 x h.0 p.3) in omega (arith, length-append p.0 p.1, ap length (sym p.2 ∙ e ∙ q)))
  items_same (x ∷ xs) (y ∷ ys) s t e h g p q =
      let both : p.0 ++ p.1 ≡ q.0 ++ q.1 = sym p.2 ∙ e ∙ q.2 in
      let k = law.prefix_free x y p.0 q.0 p.1 q.1 h.0 g.0 p.3 q.3 both in
      let more : p.1 ≡ q.1 = append_cancel_left p.0 p.1 q.1 (both ∙ ap (λ (r : List ℕ). r ++ q.1) (sym k.0)) in
      ap (λ (z : X). z ∷ xs) k.1 ∙ ap (λ (zs : List X). y ∷ zs) (items_same xs ys p.1 q.1 more h.1 g.1 p.4 q.4)

  -- ---- the value around them

  module _ (tag : Tag) where
    list_taken : (bytes c r rest : List ℕ) (w xs : List X) → IsValue tag c (value_of tag.0 c) → bytes ≡ value_of tag.0 c ++ r → AllFormed f.in_form w → SpellsAll f.Spells c w → ◌≡◌ {A = List X × List ℕ} (w, r) (xs, rest) → Takes (AllFormed f.in_form) (SpellsList tag f.Spells) bytes xs rest
    list_taken bytes c r rest w xs v parts formed spelled same =
        subst (λ (p : List X × List ℕ). Takes (AllFormed f.in_form) (SpellsList tag f.Spells) bytes p.0 p.1) same
        (record { formed = formed; spelling = value_of tag.0 c; spelled = record { contents = c; value = v; items = spelled }; parts = parts })

    list_takes : (depth : ℕ) (bytes : List ℕ) (xs : List X) (rest : List ℕ) → TailIsBytes bytes → list_at tag f.reading depth bytes ≡ Ok (xs, rest) → Takes (AllFormed f.in_form) (SpellsList tag f.Spells) bytes xs rest
    unfolding list_at
    list_takes depth bytes xs rest fits e =
        let v = bind_ok (nested_at tag depth bytes) (λ v. items_at (f.reading (depth + 1)) (length v.0) v.0 >>= λ xs. Ok (xs, v.1)) (xs, rest) e in
        let w = bind_ok (items_at (f.reading (depth + 1)) (length v.0.0) v.0.0) (λ xs. Ok (xs, v.0.1)) (xs, rest) v.2 in
        let t = nested_takes tag depth bytes v.0.0 v.0.1 fits v.1 in
        let k = items_takes (depth + 1) (length v.0.0) v.0.0 w.0 (IsBytes-contents tag.0 v.0.0 v.0.1 (subst TailIsBytes t.1 fits)) w.1 in
        list_taken bytes v.0.0 v.0.1 rest w.0 xs t.0 t.1 k.0 k.1 (ok_is (w.0, v.0.1) (xs, rest) w.2)

    list_again : (depth : ℕ) (s rest : List ℕ) (xs : List X) → AllFormed f.in_form xs → (p : SpellsList tag f.Spells s xs) → list_at tag f.reading depth (s ++ rest) ≡ within depth (1 + greatest f.height p.contents xs p.items) (xs, rest)
    unfolding list_at
    list_again depth s rest xs formed p =
        let c = p.contents in
        let heights = greatest f.height c xs p.items in
        let k : (items_at (f.reading (depth + 1)) (length c) c >>= λ ys. Ok (ys, rest)) ≡ within (depth + 1) heights (xs, rest) =
        rw (items_again (depth + 1) (length c) c xs (omega arith) formed p.items) (within_next (depth + 1) heights xs (xs, rest) (λ ys. Ok (ys, rest)) refl) in
        rw (nested_again tag depth c s rest p.value)
        (within_inner depth heights (c, rest) (xs, rest) (λ v. items_at (f.reading (depth + 1)) (length v.0) v.0 >>= λ ys. Ok (ys, v.1)) k)

    list_shorter : (depth : ℕ) (bytes : List ℕ) (xs : List X) (rest : List ℕ) → list_at tag f.reading depth bytes ≡ Ok (xs, rest) → length rest < length bytes
    unfolding list_at
    list_shorter depth bytes xs rest e =
        let v = bind_ok (nested_at tag depth bytes) (λ v. items_at (f.reading (depth + 1)) (length v.0) v.0 >>= λ xs. Ok (xs, v.1)) (xs, rest) e in
        let w = bind_ok (items_at (f.reading (depth + 1)) (length v.0.0) v.0.0) (λ xs. Ok (xs, v.0.1)) (xs, rest) v.2 in
        omega (arith, nested_shorter tag depth bytes v.0.0 v.0.1 v.1, ap length (pair_snd _ _ (ok_is (w.0, v.0.1) (xs, rest) w.2)))

    list_prefix_free : (xs ys : List X) (s t a b : List ℕ) → AllFormed f.in_form xs → AllFormed f.in_form ys → SpellsList tag f.Spells s xs → SpellsList tag f.Spells t ys → s ++ a ≡ t ++ b → (s ≡ t) × (xs ≡ ys)
    list_prefix_free xs ys s t a b h g p q e =
        let k = IsValue-same tag p.contents q.contents s t a b p.value q.value e in
        (k.0, items_same xs ys p.contents q.contents k.1 h g p.items q.items)

    list_cut : (depth : ℕ) (front back : List ℕ) (xs : List X) → AllFormed f.in_form xs → SpellsList tag f.Spells (front ++ back) xs → back ≢ [] → list_at tag f.reading depth front ≡ Err Truncated
    unfolding list_at
    list_cut depth front back xs formed p some = rw (nested_cut tag depth p.contents front back p.value some) refl

    list_stays : (depth : ℕ) → Stays (list_at tag f.reading depth)
    unfolding list_at
    list_stays depth =
        then_stays (nested_at tag depth) (λ v. items_at (f.reading (depth + 1)) (length v.0) v.0 >>= λ xs. Ok (xs, v.1)) (nested_goes_on tag depth) (nested_stays tag depth)
        (λ c rest other e h. kept_fault (items_at (f.reading (depth + 1)) (length c) c) (λ xs. xs) rest other e h)

    pub list_readable : Readable (list_form tag f)
    list_readable = record {
      one_value = λ s xs _ p. record { tag = tag; contents = p.contents; value = p.value };
      prefix_free = list_prefix_free;
      takes = list_takes;
      again = list_again;
      shorter = list_shorter;
      first = λ s xs _ p. BeginsBy-value (λ b. eqb b tag.0) tag p.contents s (eqb_same tag.0) p.value;
      cut = list_cut;
      stays = list_stays;
    }

module _ {X : Type 0} (f : Form X) (law : Writable f) where
  items_encode : (s : List ℕ) (xs : List X) → AllFormed f.in_form xs → SpellsAll f.Encodes s xs → SpellsAll f.Spells s xs
  items_encode s [] h p = p
  items_encode s (x ∷ xs) h p = (p.0, p.1, p.2, law.encodes p.0 x h.0 p.3, items_encode p.1 xs h.1 p.4)

  items_are : (s : List ℕ) (xs : List X) → SpellsAll f.Encodes s xs → s ≡ flat_map f.encoding xs
  items_are s [] p = p
  items_are s (x ∷ xs) p = p.2 ∙ ap (λ (r : List ℕ). r ++ p.1) (law.is_encoding p.0 x p.3) ∙ ap (λ (r : List ℕ). f.encoding x ++ r) (items_are p.1 xs p.4)

  items_have : (xs : List X) → AllFormed f.in_form xs → length (flat_map f.encoding xs) < 2 ^ 64 → SpellsAll f.Encodes (flat_map f.encoding xs) xs
  items_have [] h fits = refl
  items_have (x ∷ xs) h fits =
      let one = f.encoding x in
      let more = flat_map f.encoding xs in
      let both : length (one ++ more) ≡ length one + length more = length-append one more in
      (one, more, refl, law.has_encoding x h.0 (omega arith), items_have xs h.1 (omega arith))

  items_not_refused : (s : List ℕ) (xs : List X) → SpellsAll f.Encodes s xs → SomeRefused f.Refused xs → ⊥
  items_not_refused s [] p r = r
  items_not_refused s (x ∷ xs) p (inl r) = law.not_refused p.0 x p.3 r
  items_not_refused s (x ∷ xs) p (inr r) = items_not_refused p.1 xs p.4 r

  items_accepted : (xs : List X) → AllFormed f.in_form xs → SomeRefused f.Refused xs → ⊥
  items_accepted [] h r = r
  items_accepted (x ∷ xs) h (inl r) = law.accepted x h.0 r
  items_accepted (x ∷ xs) h (inr r) = items_accepted xs h.1 r

  module _ (tag : Tag) (one_byte : tag.0 % 32 ≢ 31) where
    pub list_writable : Writable (list_form tag f)
    list_writable = record {
      encodes = λ s xs h p. record { contents = p.contents; value = p.value; items = items_encode p.contents xs h p.items };
      written = λ s xs p. record { tag = tag; contents = p.contents; value = p.value };
      is_encoding = λ s xs p. p.value.bytes_are ∙ ap (value_of tag.0) (items_are p.contents xs p.items);
      has_encoding = λ xs formed fits.
          let all = flat_map f.encoding xs in
          let inner : length all < 2 ^ 64 = omega (arith, length-value_of tag.0 all) in
          record { contents = all; value = IsValue-of tag all one_byte fits; items = items_have xs formed inner };
      not_refused = λ s xs p r. items_not_refused p.contents xs p.items r;
      accepted = items_accepted;
    }

pub list_tagged : {X : Type 0} (f : Form X) (tag : Tag) → Tagged tag (list_form tag f)
list_tagged f tag = record {
  first = λ s xs _ p. BeginsBy-value (λ b. eqb b tag.0) tag p.contents s (eqb_same tag.0) p.value;
  no_other = λ b. refl;
}

-- lists of values that are written in form are
module _ {X : Type 0} (f : Form X) (formed : IsWrittenInForm f) where
  items_formed : (s : List ℕ) (xs : List X) → SpellsAll f.Encodes s xs → AllFormed f.in_form xs
  items_formed s [] p = tt
  items_formed s (x ∷ xs) p = (formed p.0 x p.3, items_formed p.1 xs p.4)

  pub list_formed : (tag : Tag) → IsWrittenInForm (list_form tag f)
  list_formed tag s xs p = items_formed p.contents xs p.items

-- lists nest one reader more than the values in them
module _ {X : Type 0} (f : Form X) (most : ℕ) (inner : NestsAtMost most f) where
  items_nest : (s : List ℕ) (xs : List X) (p : SpellsAll f.Spells s xs) → greatest f.height s xs p ≤ most
  items_nest s [] p = omega arith
  items_nest s (x ∷ xs) p = max-le (inner p.0 x p.3) (items_nest p.1 xs p.4)

  pub list_nests : (tag : Tag) → NestsAtMost (1 + most) (list_form tag f)
  list_nests tag s xs p = omega (arith, items_nest p.contents xs p.items)
