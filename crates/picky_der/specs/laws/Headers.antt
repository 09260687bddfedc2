-- A header and its contents are read both ways.
use Rattle.std.proofs.Common.{◌≡◌, ◌≢◌, ℕ, ◌+◌, ◌-◌, ◌%◌, ◌^◌, ◌<◌, ◌≤◌, Bool, true, false, ltb, eqb, List, [], ◌∷◌, ◌++◌, length, take, drop, Ok, refl, sym, ap, subst, ◌∙◌, append_assoc, arith, inl, inr}
use Rattle.std.specs.Prelude.{◌||◌, slice_index}
use Rattle.std.proofs.lemmas.Bool.{eq-eqb, ne_eqb, eqb-true, ltb-false, le-ltb}
use Rattle.std.proofs.lemmas.List.{take_at, drop_at, take-append-drop, length-append, length-take, length-drop}
use Rattle.picky_asn1_tag.specs.declared.tag.Tag.{Tag}
use Rattle.picky_asn1_bits.specs.Integer.{unsigned_of}
use Rattle.picky_der.specs.declared.fault.DerError.TheVariants.{Truncated, WrongTag, BadLength, BadValue, TooDeep}
use Rattle.picky_der.specs.Length.{IsBytes, TailIsBytes, length_of, value_of}
use Rattle.picky_der.specs.Reading.{◌>>=◌, length_at, long_at, contents_at, rest_at, after_tag, value_at, raw_at, deeper, within, nested_at, whole_bytes, nested_bits_at, end_at}
use Rattle.picky_der.specs.Form.{IsValue, IsOneValue, BeginsBy}
use Rattle.picky_der.specs.laws.Steps.{chosen, ok_is, guard_ok, need_ok, bind_ok, pair_fst, pair_snd}
use Rattle.picky_der.specs.laws.Depth.{deeper_is}
use Rattle.picky_der.specs.laws.Lengths.{IsBytes-after, IsBytes-front, length_again, length_takes}

pub eqb_same : (n : ℕ) → eqb n n ≡ true
eqb_same n = eq-eqb n n refl

-- ---- contents

pub contents_again : (c rest : List ℕ) → contents_at (length c) (c ++ rest) ≡ Ok (c, rest)
unfolding contents_at
contents_again c rest =
    let test : ltb (length (c ++ rest)) (length c) ≡ false = le-ltb _ _ (omega (arith, length-append c rest)) in
    rw (test, take_at c rest (length c) refl, drop_at c rest (length c) refl) refl

pub contents_takes : (n : ℕ) (bytes c rest : List ℕ) → contents_at n bytes ≡ Ok (c, rest) → (bytes ≡ c ++ rest) × (length c ≡ n)
unfolding contents_at
contents_takes n bytes c rest e =
    let a = guard_ok (ltb (length bytes) n) Truncated (Ok (take n bytes, drop n bytes)) (c, rest) e in
    let pair = ok_is (take n bytes, drop n bytes) (c, rest) a.1 in
    let enough : n ≤ length bytes = ltb-false (length bytes) n a.0 in
    let c-is : take n bytes ≡ c = pair_fst _ _ pair in
    let rest-is : drop n bytes ≡ rest = pair_snd _ _ pair in
    (rw (← c-is, ← rest-is) (sym (take-append-drop n bytes)), rw (← c-is) (omega (arith, length-take n bytes)))

-- ---- after the tag

pub after_tag_again : (tag : ℕ) (c rest : List ℕ) → tag % 32 ≢ 31 → length c < 2 ^ 64 → after_tag tag ((length_of (length c) ++ c) ++ rest) ≡ Ok (c, rest)
unfolding after_tag rest_at
after_tag_again tag c rest one lt =
    let test : eqb (tag % 32) 31 ≡ false = ne_eqb (tag % 32) 31 one in
    let regroup : (length_of (length c) ++ c) ++ rest ≡ length_of (length c) ++ (c ++ rest) = append_assoc (length_of (length c)) c rest in
    rw (test, regroup, length_again (length c) (c ++ rest) lt) (contents_again c rest)

pub after_tag_takes : (tag : ℕ) (bytes c rest : List ℕ) → IsBytes bytes → after_tag tag bytes ≡ Ok (c, rest) → (tag % 32 ≢ 31) × (length c < 2 ^ 64) × (bytes ≡ (length_of (length c) ++ c) ++ rest)
unfolding after_tag rest_at
after_tag_takes tag bytes c rest fits e =
    let a = guard_ok (eqb (tag % 32) 31) BadValue _ (c, rest) e in
    let n = bind_ok (length_at bytes) (λ n. contents_at n.0 n.1) (c, rest) a.1 in
    let l = length_takes bytes n.0.0 n.0.1 fits n.1 in
    let k = contents_takes n.0.0 n.0.1 c rest n.2 in
    let len : n.0.0 ≡ length c = sym k.1 in
    let one : tag % 32 ≢ 31 = λ h. absurd (let t = eq-eqb (tag % 32) 31 h in let u = a.0 in cc) in
    let same : bytes ≡ length_of (length c) ++ (c ++ rest) = l.0 ∙ ap (λ (m : ℕ). length_of m ++ n.0.1) len ∙ ap (λ (t : List ℕ). length_of (length c) ++ t) k.0 in
    (one, subst (λ (m : ℕ). m < 2 ^ 64) len l.1, same ∙ sym (append_assoc (length_of (length c)) c rest))

-- ---- a value of a tag

pub value_again : (tag : Tag) (c rest : List ℕ) → tag.0 % 32 ≢ 31 → length c < 2 ^ 64 → value_at tag (value_of tag.0 c ++ rest) ≡ Ok (c, rest)
unfolding value_at value_of
value_again tag c rest one lt =
    let test : eqb tag.0 tag.0 ≡ true = eqb_same tag.0 in
    rw test (after_tag_again tag.0 c rest one lt)

pub value_takes : (tag : Tag) (bytes c rest : List ℕ) → TailIsBytes bytes → value_at tag bytes ≡ Ok (c, rest) → IsValue tag c (value_of tag.0 c) × (bytes ≡ value_of tag.0 c ++ rest)
unfolding value_at value_of
value_takes tag [] c rest fits e = absurd cc
value_takes tag (b ∷ bs) c rest fits e =
    let a = need_ok (eqb b tag.0) (WrongTag tag (record { 0 = b })) _ (c, rest) e in
    let k = after_tag_takes tag.0 bs c rest fits a.1 in
    let b-is : b ≡ tag.0 = eqb-true b tag.0 a.0 in
    (record { one_byte = k.0; fits = k.1; bytes_are = refl }, ap (λ (x : ℕ). x ∷ bs) b-is ∙ ap (λ (t : List ℕ). tag.0 ∷ t) k.2)

pub IsValue-again : (tag : Tag) (c s rest : List ℕ) → IsValue tag c s → value_at tag (s ++ rest) ≡ Ok (c, rest)
IsValue-again tag c s rest v = rw v.bytes_are (value_again tag c rest v.one_byte v.fits)

-- two values of a tag in front of the same bytes are one
pub IsValue-same : (tag : Tag) (c d s t a b : List ℕ) → IsValue tag c s → IsValue tag d t → s ++ a ≡ t ++ b → (s ≡ t) × (c ≡ d)
IsValue-same tag c d s t a b p q e =
    let same = ok_is (c, a) (d, b) (sym (IsValue-again tag c s a p) ∙ ap (value_at tag) e ∙ IsValue-again tag d t b q) in
    let c-is : c ≡ d = pair_fst _ _ same in
    (p.bytes_are ∙ ap (value_of tag.0) c-is ∙ sym q.bytes_are, c-is)

pub IsBytes-contents : (tag : ℕ) (c rest : List ℕ) → TailIsBytes (value_of tag c ++ rest) → IsBytes c
unfolding value_of
IsBytes-contents tag c rest h = IsBytes-after (length_of (length c)) c (IsBytes-front (length_of (length c) ++ c) rest h)

pub BeginsBy-value : (test : ℕ → Bool) (tag : Tag) (c bytes : List ℕ) → test tag.0 ≡ true → IsValue tag c bytes → BeginsBy test bytes
unfolding value_of
BeginsBy-value test tag c bytes h v = rw v.bytes_are h

pub length-value_of : (tag : ℕ) (c : List ℕ) → length c < length (value_of tag c)
unfolding value_of
length-value_of tag c = omega (arith, length-append (length_of (length c)) c)

-- a value that fits 2^64 bytes
pub IsValue-of : (tag : Tag) (c : List ℕ) → tag.0 % 32 ≢ 31 → length (value_of tag.0 c) < 2 ^ 64 → IsValue tag c (value_of tag.0 c)
IsValue-of tag c one_byte fits = record { one_byte = one_byte; fits = omega (arith, length-value_of tag.0 c); bytes_are = refl }

-- ---- what is read takes a byte

long_shorter : (k : ℕ) (bytes : List ℕ) (n : ℕ) (rest : List ℕ) → long_at k bytes ≡ Ok (n, rest) → length rest ≤ length bytes
unfolding long_at
long_shorter k bytes n rest e =
    let ds = take k bytes in
    let a = guard_ok (ltb (length bytes) k) Truncated _ (n, rest) e in
    let b = guard_ok (eqb k 0 || ltb 8 k) BadLength _ (n, rest) a.1 in
    let c = guard_ok (eqb (slice_index ds 0) 0 || ltb (unsigned_of ds) 128) BadLength (Ok (unsigned_of ds, drop k bytes)) (n, rest) b.1 in
    let rest-is : drop k bytes ≡ rest = pair_snd _ _ (ok_is (unsigned_of ds, drop k bytes) (n, rest) c.1) in
    omega (arith, length-drop k bytes, ap length rest-is)

pub length_shorter : (bytes : List ℕ) (n : ℕ) (rest : List ℕ) → length_at bytes ≡ Ok (n, rest) → length rest ≤ length bytes
unfolding length_at
length_shorter [] n rest e = absurd cc
length_shorter (b ∷ bs) n rest e =
    elim (chosen (ltb b 128) _ _ _ e) [
      | inl h ↦ omega (arith, ap length (pair_snd _ _ (ok_is (b, bs) (n, rest) h.1)))
      | inr h ↦ omega (arith, long_shorter (b - 128) bs n rest h.1)
    ]

pub after_tag_shorter : (tag : ℕ) (bytes c rest : List ℕ) → after_tag tag bytes ≡ Ok (c, rest) → length c + length rest ≤ length bytes
unfolding after_tag rest_at
after_tag_shorter tag bytes c rest e =
    let a = guard_ok (eqb (tag % 32) 31) BadValue _ (c, rest) e in
    let n = bind_ok (length_at bytes) (λ n. contents_at n.0 n.1) (c, rest) a.1 in
    let k = contents_takes n.0.0 n.0.1 c rest n.2 in
    omega (arith, length_shorter bytes n.0.0 n.0.1 n.1, ap length k.0, length-append c rest)

pub value_shorter : (tag : Tag) (bytes c rest : List ℕ) → value_at tag bytes ≡ Ok (c, rest) → length rest < length bytes
unfolding value_at
value_shorter tag [] c rest e = absurd cc
value_shorter tag (b ∷ bs) c rest e =
    let a = need_ok (eqb b tag.0) (WrongTag tag (record { 0 = b })) _ (c, rest) e in
    omega (arith, after_tag_shorter tag.0 bs c rest a.1)

-- ---- a whole value, whatever its tag

raw_tail : (b : ℕ) (bs s rest : List ℕ) → b ∷ bs ≡ s ++ rest → take (length (b ∷ bs) - length rest) (b ∷ bs) ≡ s
raw_tail b bs s rest e =
    let n : length (b ∷ bs) - length rest ≡ length s = omega (arith, ap length e, length-append s rest) in
    rw n (rw e (take_at s rest (length s) refl))

pub raw_again : (s rest : List ℕ) → IsOneValue s → raw_at (s ++ rest) ≡ Ok (s, rest)
unfolding raw_at value_of
raw_again s rest v =
    let c = v.contents in
    let t = v.tag.0 in
    let front : after_tag t ((length_of (length c) ++ c) ++ rest) ≡ Ok (c, rest) = after_tag_again t c rest v.value.one_byte v.value.fits in
    let whole : take (length (t ∷ ((length_of (length c) ++ c) ++ rest)) - length rest) (t ∷ ((length_of (length c) ++ c) ++ rest)) ≡ t ∷ (length_of (length c) ++ c) = raw_tail t ((length_of (length c) ++ c) ++ rest) (t ∷ (length_of (length c) ++ c)) rest refl in
    rw (v.value.bytes_are, front, whole) refl

pub raw_takes : (bytes s rest : List ℕ) → TailIsBytes bytes → raw_at bytes ≡ Ok (s, rest) → IsOneValue s × (bytes ≡ s ++ rest)
unfolding raw_at value_of
raw_takes [] s rest fits e = absurd cc
raw_takes (b ∷ bs) s rest fits e =
    let v = bind_ok (after_tag b bs) (λ v. Ok (take (length (b ∷ bs) - length v.1) (b ∷ bs), v.1)) (s, rest) e in
    let k = after_tag_takes b bs v.0.0 v.0.1 fits v.1 in
    let same = ok_is (take (length (b ∷ bs) - length v.0.1) (b ∷ bs), v.0.1) (s, rest) v.2 in
    let c = v.0.0 in
    let r = v.0.1 in
    let parts : b ∷ bs ≡ (b ∷ (length_of (length c) ++ c)) ++ r = ap (λ (t : List ℕ). b ∷ t) k.2 in
    let s-is : b ∷ (length_of (length c) ++ c) ≡ s = sym (raw_tail b bs (b ∷ (length_of (length c) ++ c)) r parts) ∙ pair_fst _ _ same in
    let rest-is : r ≡ rest = pair_snd _ _ same in (
      record { tag = record { 0 = b }; contents = c; value = record { one_byte = k.0; fits = k.1; bytes_are = sym s-is } },
      parts ∙ ap (λ (t : List ℕ). t ++ r) s-is ∙ ap (λ (t : List ℕ). s ++ t) rest-is,
    )

pub raw_shorter : (bytes s rest : List ℕ) → raw_at bytes ≡ Ok (s, rest) → length rest < length bytes
unfolding raw_at
raw_shorter [] s rest e = absurd cc
raw_shorter (b ∷ bs) s rest e =
    let v = bind_ok (after_tag b bs) (λ v. Ok (take (length (b ∷ bs) - length v.1) (b ∷ bs), v.1)) (s, rest) e in
    let same = ok_is (take (length (b ∷ bs) - length v.0.1) (b ∷ bs), v.0.1) (s, rest) v.2 in
    omega (arith, after_tag_shorter b bs v.0.0 v.0.1 v.1, ap length (pair_snd _ _ same))

-- ---- readers nested in one another

pub deeper_ok : {A : Type 0} (depth : ℕ) (x y : A) → deeper depth x ≡ Ok y → x ≡ y
unfolding deeper
deeper_ok depth x y e = ok_is x y (need_ok (ltb depth 256) TooDeep (Ok x) y e).1

pub nested_again : (tag : Tag) (depth : ℕ) (c s rest : List ℕ) → IsValue tag c s → nested_at tag depth (s ++ rest) ≡ within depth 1 (c, rest)
unfolding nested_at
nested_again tag depth c s rest v = rw (IsValue-again tag c s rest v) (deeper_is depth (c, rest))

pub nested_takes : (tag : Tag) (depth : ℕ) (bytes c rest : List ℕ) → TailIsBytes bytes → nested_at tag depth bytes ≡ Ok (c, rest) → IsValue tag c (value_of tag.0 c) × (bytes ≡ value_of tag.0 c ++ rest)
unfolding nested_at
nested_takes tag depth bytes c rest fits e =
    let v = bind_ok (value_at tag bytes) (λ v. deeper depth v) (c, rest) e in
    value_takes tag bytes c rest fits (v.1 ∙ ap (λ (p : List ℕ × List ℕ). Ok p) (deeper_ok depth v.0 (c, rest) v.2))

pub nested_shorter : (tag : Tag) (depth : ℕ) (bytes c rest : List ℕ) → nested_at tag depth bytes ≡ Ok (c, rest) → length rest < length bytes
unfolding nested_at
nested_shorter tag depth bytes c rest e =
    let v = bind_ok (value_at tag bytes) (λ v. deeper depth v) (c, rest) e in
    value_shorter tag bytes c rest (v.1 ∙ ap (λ (p : List ℕ × List ℕ). Ok p) (deeper_ok depth v.0 (c, rest) v.2))

whole_bytes_ok : (bytes c : List ℕ) → whole_bytes bytes ≡ Ok c → bytes ≡ 0 ∷ c
unfolding whole_bytes
whole_bytes_ok [] c e = absurd cc
whole_bytes_ok (b ∷ bs) c e =
    let a = need_ok (eqb b 0) BadValue (Ok bs) c e in
    let b-is : b ≡ 0 = eqb-true b 0 a.0 in
    let bs-is : bs ≡ c = ok_is bs c a.1 in
    rw (b-is, bs-is) refl

whole_bytes_again : (c : List ℕ) → whole_bytes (0 ∷ c) ≡ Ok c
unfolding whole_bytes
whole_bytes_again c = refl

pub nested_bits_again : (tag : Tag) (depth : ℕ) (c s rest : List ℕ) → IsValue tag (0 ∷ c) s → nested_bits_at tag depth (s ++ rest) ≡ within depth 1 (c, rest)
unfolding nested_bits_at
nested_bits_again tag depth c s rest v = rw (IsValue-again tag (0 ∷ c) s rest v, whole_bytes_again c) (deeper_is depth (c, rest))

pub nested_bits_takes : (tag : Tag) (depth : ℕ) (bytes c rest : List ℕ) → TailIsBytes bytes → nested_bits_at tag depth bytes ≡ Ok (c, rest) → IsValue tag (0 ∷ c) (value_of tag.0 (0 ∷ c)) × (bytes ≡ value_of tag.0 (0 ∷ c) ++ rest)
unfolding nested_bits_at
nested_bits_takes tag depth bytes c rest fits e =
    let v = bind_ok (value_at tag bytes) (λ v. whole_bytes v.0 >>= λ c. deeper depth (c, v.1)) (c, rest) e in
    let w = bind_ok (whole_bytes v.0.0) (λ c. deeper depth (c, v.0.1)) (c, rest) v.2 in
    let same = deeper_ok depth (w.0, v.0.1) (c, rest) w.2 in
    let c-is : v.0.0 ≡ 0 ∷ c = whole_bytes_ok v.0.0 w.0 w.1 ∙ ap (λ (t : List ℕ). 0 ∷ t) (pair_fst _ _ same) in
    let rest-is : v.0.1 ≡ rest = pair_snd _ _ same in
    value_takes tag bytes (0 ∷ c) rest fits (v.1 ∙ ap (λ (t : List ℕ). Ok (t, v.0.1)) c-is ∙ ap (λ (t : List ℕ). Ok (0 ∷ c, t)) rest-is)

pub nested_bits_shorter : (tag : Tag) (depth : ℕ) (bytes c rest : List ℕ) → nested_bits_at tag depth bytes ≡ Ok (c, rest) → length rest < length bytes
unfolding nested_bits_at
nested_bits_shorter tag depth bytes c rest e =
    let v = bind_ok (value_at tag bytes) (λ v. whole_bytes v.0 >>= λ c. deeper depth (c, v.1)) (c, rest) e in
    let w = bind_ok (whole_bytes v.0.0) (λ c. deeper depth (c, v.0.1)) (c, rest) v.2 in
    let same = deeper_ok depth (w.0, v.0.1) (c, rest) w.2 in
    omega (arith, value_shorter tag bytes v.0.0 v.0.1 v.1, ap length (pair_snd _ _ same))

pub end_takes : (rest : List ℕ) (u : Unit {0}) → end_at rest ≡ Ok u → rest ≡ []
unfolding end_at
end_takes [] u e = refl
end_takes (b ∷ bs) u e = absurd cc

pub end_again : end_at [] ≡ Ok tt
unfolding end_at
end_again = refl
