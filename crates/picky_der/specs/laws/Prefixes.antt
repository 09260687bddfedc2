-- What reading answers of the front of bytes, and of the same bytes with more behind them.
use Rattle.std.proofs.Common.{◌≡◌, ◌≢◌, ℕ, ◌-◌, ◌%◌, ◌≤◌, false, ltb, eqb, List, [], ◌∷◌, ◌++◌, length, take, drop, Result, Ok, Err, ◌⊎◌, refl, sym, ap, ◌∙◌, arith, inl, inr}
use Rattle.std.specs.Prelude.{◌||◌, slice_index}
use Rattle.std.proofs.lemmas.Bool.{eqb-true, ltb-false, le-ltb}
use Rattle.std.proofs.lemmas.List.{append-nil, take-append-le, drop-append-le, length-append}
use Rattle.picky_asn1_bits.specs.Integer.{unsigned_of}
use Rattle.picky_asn1_tag.specs.declared.tag.Tag.{Tag}
use Rattle.picky_der.specs.declared.fault.DerError.{DerError}
use Rattle.picky_der.specs.declared.fault.DerError.TheVariants.{Truncated, WrongTag, BadLength, BadValue, TrailingBytes, TooDeep, OutOfMemory}
use Rattle.picky_der.specs.Reading.{◌>>=◌, long_at, length_at, contents_at, rest_at, after_tag, value_at, raw_at, deeper, nested_at, whole_bytes, nested_bits_at}
use Rattle.picky_der.specs.Form.{IsValue, IsOneValue}
use Rattle.picky_der.specs.laws.Steps.{chosen, good, ok_is, guard_ok, need_ok, bind_ok}
use Rattle.picky_der.specs.laws.Headers.{IsValue-again}

-- what is given is given with more bytes behind, which are then left
abbrev pub GoesOn : {A : Type 0} → (List ℕ → Result (A × List ℕ) DerError) → Type 0
GoesOn {A = A} read = (bytes : List ℕ) (x : A) (rest more : List ℕ) → read bytes ≡ Ok (x, rest) → read (bytes ++ more) ≡ Ok (x, rest ++ more)

-- a fault other than a missing byte is the fault with more bytes behind
abbrev pub Stays : {B : Type 0} → (List ℕ → Result B DerError) → Type 0
Stays read = (bytes more : List ℕ) (e : DerError) → e ≢ Truncated → read bytes ≡ Err e → read (bytes ++ more) ≡ Err e

-- ---- faults

abbrev bad : {A : Type 0} → DerError → Result A DerError
bad e = Err e

err_is : {A : Type 0} (d e : DerError) → bad {A = A} d ≡ bad {A = A} e → d ≡ e
err_is d e h = cc

-- a missing byte isn't another fault
missing : {A : Type 0} {Z : Type 0} (e : DerError) → e ≢ Truncated → bad {A = A} Truncated ≡ bad {A = A} e → Z
missing {A = A} e other h = absurd (other (sym (err_is {A = A} Truncated e h)))

-- the fault of a first step, or that of the next
pub bind_err : {A B : Type 0} (r : Result A DerError) (f : A → Result B DerError) (e : DerError) → (r >>= f) ≡ Err e → (r ≡ Err e) ⊎ ((x : A) × (r ≡ Ok x) × (f x ≡ Err e))
bind_err (Ok x) f e h = inr (x, refl, h)
bind_err {B = B} (Err d) f e h = inl (ap bad (err_is {A = B} d e h))

-- a value, and the bytes behind it
abbrev pub with_rest : {A B : Type 0} → (A → B) → List ℕ → A → Result (B × List ℕ) DerError
with_rest out rest x = Ok (out x, rest)

-- a fault in the contents is the same whatever bytes are behind
pub kept_fault : {A B : Type 0} (inner : Result A DerError) (out : A → B) (rest other : List ℕ) (e : DerError) → (inner >>= with_rest out rest) ≡ Err e → (inner >>= with_rest out other) ≡ Err e
kept_fault (Ok x) out rest other e h = absurd cc
kept_fault (Err d) out rest other e h = let same = err_is d e h in ap bad same

-- ---- a length

long_goes_on : (k : ℕ) → GoesOn (long_at k)
unfolding long_at
long_goes_on k bytes n rest more e =
    let a = guard_ok (ltb (length bytes) k) Truncated _ (n, rest) e in
    let b = guard_ok (eqb k 0 || ltb 8 k) BadLength _ (n, rest) a.1 in
    let c = guard_ok (eqb (slice_index (take k bytes) 0) 0 || ltb (unsigned_of (take k bytes)) 128) BadLength (Ok (unsigned_of (take k bytes), drop k bytes)) (n, rest) b.1 in
    let pair = ok_is (unsigned_of (take k bytes), drop k bytes) (n, rest) c.1 in
    let enough : k ≤ length bytes = ltb-false (length bytes) k a.0 in
    let test : ltb (length (bytes ++ more)) k ≡ false = le-ltb _ _ (omega (arith, length-append bytes more)) in
    let front : take k (bytes ++ more) ≡ take k bytes = take-append-le k bytes more enough in
    let back : drop k (bytes ++ more) ≡ drop k bytes ++ more = drop-append-le k bytes more enough in
    rw (test, front, back, b.0, c.0) (ap (λ (p : ℕ × List ℕ). good (p.0, p.1 ++ more)) pair)

long_stays : (k : ℕ) → Stays (long_at k)
unfolding long_at
long_stays k bytes more e other h =
    elim (chosen (ltb (length bytes) k) _ _ _ h) [
      | inl c ↦ missing {A = ℕ × List ℕ} e other c.1
      | inr c ↦
          let enough : k ≤ length bytes = ltb-false (length bytes) k c.0 in
          let test : ltb (length (bytes ++ more)) k ≡ false = le-ltb _ _ (omega (arith, length-append bytes more)) in
          let front : take k (bytes ++ more) ≡ take k bytes = take-append-le k bytes more enough in
          rw (test, front) (elim (chosen (eqb k 0 || ltb 8 k) _ _ _ c.1) [
            | inl d ↦ rw d.0 d.1
            | inr d ↦ rw d.0 (elim (chosen (eqb (slice_index (take k bytes) 0) 0 || ltb (unsigned_of (take k bytes)) 128) _ _ _ d.1) [
              | inl f ↦ rw f.0 f.1
              | inr f ↦ absurd (let g = f.1 in cc)
            ])
          ])
    ]

length_goes_on : GoesOn length_at
unfolding length_at
length_goes_on [] n rest more e = absurd cc
length_goes_on (b ∷ bs) n rest more e =
    elim (chosen (ltb b 128) _ _ _ e) [
      | inl c ↦ rw c.0 (ap (λ (p : ℕ × List ℕ). good (p.0, p.1 ++ more)) (ok_is (b, bs) (n, rest) c.1))
      | inr c ↦ rw c.0 (long_goes_on (b - 128) bs n rest more c.1)
    ]

length_stays : Stays length_at
unfolding length_at
length_stays [] more e other h = missing {A = ℕ × List ℕ} e other h
length_stays (b ∷ bs) more e other h =
    elim (chosen (ltb b 128) _ _ _ h) [
      | inl c ↦ absurd (let g = c.1 in cc)
      | inr c ↦ rw c.0 (long_stays (b - 128) bs more e other c.1)
    ]

-- ---- contents

contents_goes_on : (n : ℕ) → GoesOn (contents_at n)
unfolding contents_at
contents_goes_on n bytes c rest more e =
    let a = guard_ok (ltb (length bytes) n) Truncated (Ok (take n bytes, drop n bytes)) (c, rest) e in
    let enough : n ≤ length bytes = ltb-false (length bytes) n a.0 in
    let test : ltb (length (bytes ++ more)) n ≡ false = le-ltb _ _ (omega (arith, length-append bytes more)) in
    rw (test, take-append-le n bytes more enough, drop-append-le n bytes more enough) (ap (λ (p : List ℕ × List ℕ). good (p.0, p.1 ++ more)) (ok_is (take n bytes, drop n bytes) (c, rest) a.1))

contents_stays : (n : ℕ) → Stays (contents_at n)
unfolding contents_at
contents_stays n bytes more e other h =
    elim (chosen (ltb (length bytes) n) _ _ _ h) [
      | inl c ↦ missing {A = List ℕ × List ℕ} e other c.1
      | inr c ↦ absurd (let g = c.1 in cc)
    ]

rest_goes_on : GoesOn rest_at
unfolding rest_at
rest_goes_on bytes c rest more e =
    let n = bind_ok (length_at bytes) (λ n. contents_at n.0 n.1) (c, rest) e in
    rw (length_goes_on bytes n.0.0 n.0.1 more n.1) (contents_goes_on n.0.0 n.0.1 c rest more n.2)

rest_stays : Stays rest_at
unfolding rest_at
rest_stays bytes more e other h =
    elim (bind_err (length_at bytes) (λ n. contents_at n.0 n.1) e h) [
      | inl k ↦ rw (length_stays bytes more e other k) refl
      | inr k ↦ rw (length_goes_on bytes k.0.0 k.0.1 more k.1) (contents_stays k.0.0 k.0.1 more e other k.2)
    ]

-- ---- a value

after_tag_goes_on : (tag : ℕ) → GoesOn (after_tag tag)
unfolding after_tag
after_tag_goes_on tag bytes c rest more e =
    let a = guard_ok (eqb (tag % 32) 31) BadValue _ (c, rest) e in
    rw a.0 (rest_goes_on bytes c rest more a.1)

pub after_tag_stays : (tag : ℕ) → Stays (after_tag tag)
unfolding after_tag
after_tag_stays tag bytes more e other h =
    elim (chosen (eqb (tag % 32) 31) _ _ _ h) [
      | inl c ↦ rw c.0 c.1
      | inr c ↦ rw c.0 (rest_stays bytes more e other c.1)
    ]

pub value_goes_on : (tag : Tag) → GoesOn (value_at tag)
unfolding value_at
value_goes_on tag [] c rest more e = absurd cc
value_goes_on tag (b ∷ bs) c rest more e =
    let a = need_ok (eqb b tag.0) (WrongTag tag (record { 0 = b })) _ (c, rest) e in
    rw a.0 (after_tag_goes_on tag.0 bs c rest more a.1)

pub value_stays : (tag : Tag) → Stays (value_at tag)
unfolding value_at
value_stays tag [] more e other h = missing {A = List ℕ × List ℕ} e other h
value_stays tag (b ∷ bs) more e other h =
    elim (chosen (eqb b tag.0) _ _ _ h) [
      | inl c ↦ rw c.0 (after_tag_stays tag.0 bs more e other c.1)
      | inr c ↦ rw c.0 c.1
    ]

pub raw_stays : Stays raw_at
unfolding raw_at
raw_stays [] more e other h = missing {A = List ℕ × List ℕ} e other h
raw_stays (b ∷ bs) more e other h =
    elim (bind_err (after_tag b bs) _ e h) [
      | inl k ↦ rw (after_tag_stays b bs more e other k) refl
      | inr k ↦ absurd (let g = k.2 in cc)
    ]

-- ---- a value that is read further: what is in it doesn't depend on the bytes behind it

pub then_stays : {B : Type 0} (front : List ℕ → Result (List ℕ × List ℕ) DerError) (next : List ℕ × List ℕ → Result B DerError) → GoesOn front → Stays front → ((c rest other : List ℕ) (e : DerError) → next (c, rest) ≡ Err e → next (c, other) ≡ Err e) → Stays (λ bytes. front bytes >>= next)
then_stays front next goes stays kept bytes more e other h =
    elim (bind_err (front bytes) next e h) [
      | inl k ↦ rw (stays bytes more e other k) refl
      | inr k ↦ rw (goes bytes k.0.0 k.0.1 more k.1) (kept k.0.0 k.0.1 (k.0.1 ++ more) e k.2)
    ]

deeper_err : {A : Type 0} (depth : ℕ) (x y : A) (e : DerError) → deeper depth x ≡ Err e → deeper depth y ≡ Err e
unfolding deeper
deeper_err depth x y e h =
    elim (chosen (ltb depth 256) _ _ _ h) [
      | inl c ↦ absurd (let g = c.1 in cc)
      | inr c ↦ rw c.0 (ap bad (err_is TooDeep e c.1))
    ]

deeper_goes_on : (depth : ℕ) (c r c2 rest more : List ℕ) → deeper {A = List ℕ × List ℕ} depth (c, r) ≡ Ok (c2, rest) → deeper {A = List ℕ × List ℕ} depth (c, r ++ more) ≡ Ok (c2, rest ++ more)
unfolding deeper
deeper_goes_on depth c r c2 rest more e =
    let a = need_ok (ltb depth 256) TooDeep (Ok (c, r)) (c2, rest) e in
    rw a.0 (ap (λ (p : List ℕ × List ℕ). good (p.0, p.1 ++ more)) (ok_is (c, r) (c2, rest) a.1))

pub nested_goes_on : (tag : Tag) (depth : ℕ) → GoesOn (nested_at tag depth)
unfolding nested_at
nested_goes_on tag depth bytes c rest more e =
    let v = bind_ok (value_at tag bytes) (λ v. deeper depth v) (c, rest) e in
    rw (value_goes_on tag bytes v.0.0 v.0.1 more v.1) (deeper_goes_on depth v.0.0 v.0.1 c rest more v.2)

pub nested_stays : (tag : Tag) (depth : ℕ) → Stays (nested_at tag depth)
unfolding nested_at
nested_stays tag depth = then_stays (value_at tag) (λ v. deeper depth v) (value_goes_on tag) (value_stays tag) (λ c rest other e h. deeper_err {A = List ℕ × List ℕ} depth (c, rest) (c, other) e h)

pub nested_bits_goes_on : (tag : Tag) (depth : ℕ) → GoesOn (nested_bits_at tag depth)
unfolding nested_bits_at
nested_bits_goes_on tag depth bytes c rest more e =
    let v = bind_ok (value_at tag bytes) (λ v. whole_bytes v.0 >>= λ c. deeper depth (c, v.1)) (c, rest) e in
    let w = bind_ok (whole_bytes v.0.0) (λ c. deeper depth (c, v.0.1)) (c, rest) v.2 in
    rw (value_goes_on tag bytes v.0.0 v.0.1 more v.1, w.1) (deeper_goes_on depth w.0 v.0.1 c rest more w.2)

abbrev deeper_with : ℕ → List ℕ → List ℕ → Result (List ℕ × List ℕ) DerError
deeper_with depth rest b = deeper depth (b, rest)

whole_bytes_kept : (depth : ℕ) (c rest other : List ℕ) (e : DerError) → (whole_bytes c >>= deeper_with depth rest) ≡ Err e → (whole_bytes c >>= deeper_with depth other) ≡ Err e
whole_bytes_kept depth c rest other e h =
    elim (bind_err (whole_bytes c) (deeper_with depth rest) e h) [
      | inl k ↦ rw k refl
      | inr k ↦ rw k.1 (deeper_err {A = List ℕ × List ℕ} depth (k.0, rest) (k.0, other) e k.2)
    ]

pub nested_bits_stays : (tag : Tag) (depth : ℕ) → Stays (nested_bits_at tag depth)
unfolding nested_bits_at
nested_bits_stays tag depth = then_stays (value_at tag) (λ v. whole_bytes v.0 >>= λ c. deeper depth (c, v.1)) (value_goes_on tag) (value_stays tag) (λ c rest other e h. whole_bytes_kept depth c rest other e h)

-- ---- a value that is cut

no_more : (a b : List ℕ) → a ++ b ≡ [] → b ≡ []
no_more [] b e = e
no_more (x ∷ a) b e = absurd cc

module _ {A : Type 0} (read : List ℕ → Result (A × List ℕ) DerError) (goes : GoesOn read) (stays : Stays read) (front back : List ℕ) (x : A) (all : read (front ++ back) ≡ Ok (x, [])) (some : back ≢ []) where
  not_other : (e : DerError) → e ≢ Truncated → read front ≡ Err e → ⊥
  not_other e other h = let k = stays front back e other h in cc

  not_whole : (y : A) (rest : List ℕ) → read front ≡ Ok (y, rest) → ⊥
  not_whole y rest h =
      let k = ok_is (y, rest ++ back) (x, []) (sym (goes front y rest back h) ∙ all) in
      some (no_more rest back (ap (λ (p : A × List ℕ). p.1) k))

  cut_by : (r : Result (A × List ℕ) DerError) → read front ≡ r → r ≡ Err Truncated
  cut_by (Ok v) h = absurd (not_whole v.0 v.1 h)
  cut_by (Err Truncated) h = refl
  cut_by (Err (WrongTag a b)) h = absurd (not_other (WrongTag a b) (λ (q : WrongTag a b ≡ Truncated). cc) h)
  cut_by (Err BadLength) h = absurd (not_other BadLength (λ (q : BadLength ≡ Truncated). cc) h)
  cut_by (Err BadValue) h = absurd (not_other BadValue (λ (q : BadValue ≡ Truncated). cc) h)
  cut_by (Err TrailingBytes) h = absurd (not_other TrailingBytes (λ (q : TrailingBytes ≡ Truncated). cc) h)
  cut_by (Err TooDeep) h = absurd (not_other TooDeep (λ (q : TooDeep ≡ Truncated). cc) h)
  cut_by (Err OutOfMemory) h = absurd (not_other OutOfMemory (λ (q : OutOfMemory ≡ Truncated). cc) h)

  cut_of : read front ≡ Err Truncated
  cut_of = cut_by (read front) refl

pub value_cut : (tag : Tag) (c front back : List ℕ) → IsValue tag c (front ++ back) → back ≢ [] → value_at tag front ≡ Err Truncated
value_cut tag c front back v some =
    cut_of (value_at tag) (value_goes_on tag) (value_stays tag) front back c (rw append-nil at (IsValue-again tag c (front ++ back) [] v)) some

pub nested_cut : (tag : Tag) (depth : ℕ) (c front back : List ℕ) → IsValue tag c (front ++ back) → back ≢ [] → nested_at tag depth front ≡ Err Truncated
unfolding nested_at
nested_cut tag depth c front back v some = rw (value_cut tag c front back v some) refl

pub nested_bits_cut : (tag : Tag) (depth : ℕ) (c front back : List ℕ) → IsValue tag (0 ∷ c) (front ++ back) → back ≢ [] → nested_bits_at tag depth front ≡ Err Truncated
unfolding nested_bits_at
nested_bits_cut tag depth c front back v some = rw (value_cut tag (0 ∷ c) front back v some) refl

pub raw_cut : (front back : List ℕ) → IsOneValue (front ++ back) → back ≢ [] → raw_at front ≡ Err Truncated
unfolding raw_at value_at
raw_cut [] back v some = refl
raw_cut (b ∷ bs) back v some =
    elim (chosen (eqb b v.tag.0) _ _ _ (value_cut v.tag v.contents (b ∷ bs) back v.value some)) [
      | inl c ↦ let same : b ≡ v.tag.0 = eqb-true b v.tag.0 c.0 in rw (same, c.1) refl
      | inr c ↦ absurd (let g = c.1 in cc)
    ]
