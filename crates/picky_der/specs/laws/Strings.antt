-- The contents octets of INTEGERs and OCTET STRINGs are decoded.
use Rattle.std.proofs.Common.{◌≡◌, ℕ, ◌<◌, ◌≤◌, Bool, true, false, ltb, leb, eqb, List, [], ◌∷◌, Ok, refl, sym, ap, subst, ◌∙◌, arith, inl, inr}
use Rattle.std.specs.Prelude.{not, ◌&&◌}
use Rattle.std.proofs.lemmas.Bool.{cases_lt, ne_eqb, ltb-false, le-ltb, lt-leb, leb-false}
use Rattle.picky_asn1_bits.specs.Integer.{IsShortest, repeats_sign}
use Rattle.picky_der.specs.declared.fault.DerError.TheVariants.{BadValue}
use Rattle.picky_der.specs.Form.{Readable, Writable, Tagged}
use Rattle.picky_der.specs.Primitive.{Decodes, primitive_form}
use Rattle.picky_der.specs.laws.Steps.{need_ok, ok_is}
use Rattle.picky_der.specs.laws.Primitives.{primitive_readable, primitive_writable, primitive_tagged}
use Rattle.picky_der.specs.Strings.{is_shortest, integer_of, integer_contents, octets_contents}

not-true : (t : Bool) → not t ≡ true → t ≡ false
not-true true h = absurd cc
not-true false h = refl

ones-not : (b c : ℕ) → (b ≡ 255 → c < 128) → (eqb b 255 && leb 128 c) ≡ false
ones-not b c high =
    elim (cases_lt b 255) [
      | inl less ↦ rw (ne_eqb b 255 (λ (z : b ≡ 255). absurd (omega arith))) refl
      | inr more ↦ elim (cases_lt 255 b) [
        | inl great ↦ rw (ne_eqb b 255 (λ (z : b ≡ 255). absurd (omega arith))) refl
        | inr small ↦ let z : b ≡ 255 = omega arith in rw (z, lt-leb 128 c (high z)) refl
      ]
    ]

-- a first octet of 0 or 255 whose sign the next repeats
zero-repeats : (b c : ℕ) → b ≡ 0 → not (repeats_sign b c) ≡ true → 128 ≤ c
zero-repeats b c z h = ltb-false c 128 (not-true (ltb c 128) (rw z at h))

ones-repeat : (b c : ℕ) → b ≡ 255 → not (repeats_sign b c) ≡ true → c < 128
ones-repeat b c z h = leb-false 128 c (not-true (leb 128 c) (rw z at h))

pub shortest-true : (octets : List ℕ) → is_shortest octets ≡ true → IsShortest octets
shortest-true [] h = absurd cc
shortest-true (b ∷ []) h = tt
shortest-true (b ∷ c ∷ bs) h = (λ z. zero-repeats b c z h, λ z. ones-repeat b c z h)

repeats-not : (b c : ℕ) → (b ≡ 0 → 128 ≤ c) → (b ≡ 255 → c < 128) → repeats_sign b c ≡ false
repeats-not b c low high =
    elim (cases_lt 0 b) [
      | inr none ↦
          let z : b ≡ 0 = omega arith in
          rw (z, le-ltb c 128 (low z)) refl
      | inl some ↦
          let nonzero : eqb b 0 ≡ false = ne_eqb b 0 (λ (z : b ≡ 0). absurd (omega arith)) in
          rw nonzero (ones-not b c high)
    ]

pub shortest-from : (octets : List ℕ) → IsShortest octets → is_shortest octets ≡ true
shortest-from [] h = absurd h
shortest-from (b ∷ []) h = refl
shortest-from (b ∷ c ∷ bs) h = ap not (repeats-not b c h.0 h.1)

integer_done : (octets x : List ℕ) → integer_of octets ≡ Ok x → IsShortest x × (octets ≡ x)
integer_done octets x e =
    let a = need_ok (is_shortest octets) BadValue (Ok octets) x e in
    let same : octets ≡ x = ok_is octets x a.1 in
    (subst IsShortest same (shortest-true octets a.0), same)

integer_back : (octets x : List ℕ) → IsShortest x → octets ≡ x → integer_of octets ≡ Ok x
integer_back octets x h e = rw (e, shortest-from x h) refl

integer_decodes : Decodes integer_contents
integer_decodes = record {
  takes = λ octets x _ e. integer_done octets x e;
  again = integer_back;
  has_octets = λ _ _. refl;
  one = λ s t x _ p q. p ∙ sym q;
}

octets_decodes : Decodes octets_contents
octets_decodes = record {
  takes = λ octets x _ e. (tt, ok_is octets x e);
  again = λ octets x _ p. rw p refl;
  has_octets = λ _ _. refl;
  one = λ s t x _ p q. p ∙ sym q;
}

pub integer_readable : Readable (primitive_form (record { 0 = 2 }) integer_contents)
integer_readable = primitive_readable (record { 0 = 2 }) integer_contents integer_decodes

pub integer_writable : Writable (primitive_form (record { 0 = 2 }) integer_contents)
integer_writable = primitive_writable (record { 0 = 2 }) integer_contents integer_decodes (λ h. absurd (omega arith))

pub integer_tagged : Tagged (record { 0 = 2 }) (primitive_form (record { 0 = 2 }) integer_contents)
integer_tagged = primitive_tagged (record { 0 = 2 }) integer_contents

pub octets_readable : Readable (primitive_form (record { 0 = 4 }) octets_contents)
octets_readable = primitive_readable (record { 0 = 4 }) octets_contents octets_decodes

pub octets_writable : Writable (primitive_form (record { 0 = 4 }) octets_contents)
octets_writable = primitive_writable (record { 0 = 4 }) octets_contents octets_decodes (λ h. absurd (omega arith))

pub octets_tagged : Tagged (record { 0 = 4 }) (primitive_form (record { 0 = 4 }) octets_contents)
octets_tagged = primitive_tagged (record { 0 = 4 }) octets_contents
