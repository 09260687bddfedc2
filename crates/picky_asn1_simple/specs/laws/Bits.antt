-- The contents octets of BIT STRINGs are decoded.
use Rattle.std.proofs.Common.{◌≡◌, ℕ, ◌<◌, ◌^◌, true, ltb, List, [], ◌∷◌, Ok, refl, sym, subst, ◌∙◌, arith}
use Rattle.std.proofs.lemmas.Bool.{eqb-true, ltb-true, lt-ltb, eq-eqb}
use Rattle.picky_asn1_bits.specs.Bits.{IsBitString, bit_count}
use Rattle.picky_der.specs.declared.fault.DerError.TheVariants.{BadValue, OutOfMemory}
use Rattle.picky_der.specs.Form.{Readable, Writable, Tagged}
use Rattle.picky_der.specs.Primitive.{Decodes, primitive_form}
use Rattle.picky_der.specs.laws.Steps.{need_ok, ok_is, bind_ok}
use Rattle.picky_der.specs.laws.Primitives.{primitive_readable, primitive_writable, primitive_tagged}
use Rattle.picky_asn1_simple.specs.Sets.{tested_of}
use Rattle.picky_asn1_simple.specs.Bits.{is_counted, held, bits_of, bits_contents}

bits_from_test : (octets : List ℕ) → is_counted octets ≡ true → bit_count octets < 2 ^ 64 → IsBitString octets
bits_from_test [] c f = absurd cc
bits_from_test (count ∷ []) c f =
    let none : count ≡ 0 = eqb-true count 0 c in
    record { counted = omega arith; count_below = omega (arith, none); count_of_none = λ _. none; fits = f }
bits_from_test (count ∷ b ∷ bs) c f =
    record { counted = omega arith; count_below = ltb-true count 8 c; count_of_none = λ e. absurd (omega (arith, e)); fits = f }

counted_from : (octets : List ℕ) → IsBitString octets → is_counted octets ≡ true
counted_from [] h = absurd (omega (arith, h.counted))
counted_from (count ∷ []) h = eq-eqb count 0 (h.count_of_none refl)
counted_from (count ∷ b ∷ bs) h = lt-ltb count 8 h.count_below

bits_held : (octets middle x : List ℕ) → is_counted octets ≡ true → octets ≡ middle → held middle ≡ Ok x → IsBitString x × (octets ≡ x)
bits_held octets middle x c e h =
    let a = need_ok (ltb (bit_count middle) (2 ^ 64)) OutOfMemory (Ok middle) x h in
    let same : middle ≡ x = ok_is middle x a.1 in
    let fits = ltb-true (bit_count middle) (2 ^ 64) a.0 in
    (subst IsBitString same (bits_from_test middle (subst (λ o. is_counted o ≡ true) e c) fits), e ∙ same)

bits_done : (octets x : List ℕ) → bits_of octets ≡ Ok x → IsBitString x × (octets ≡ x)
bits_done octets x e =
    let s = bind_ok (tested_of is_counted octets) held x e in
    let a = need_ok (is_counted octets) BadValue (Ok octets) s.0 s.1 in
    bits_held octets s.0 x a.0 (ok_is octets s.0 a.1) s.2

bits_back : (octets x : List ℕ) → IsBitString x → octets ≡ x → bits_of octets ≡ Ok x
bits_back octets x h e = rw (e, counted_from x h, lt-ltb (bit_count x) (2 ^ 64) h.fits) refl

bits_decodes : Decodes bits_contents
bits_decodes = record {
  takes = λ octets x _ e. bits_done octets x e;
  again = bits_back;
  has_octets = λ _ _. refl;
  one = λ s t x _ p q. p ∙ sym q;
}

pub bits_readable : Readable (primitive_form (record { 0 = 3 }) bits_contents)
bits_readable = primitive_readable (record { 0 = 3 }) bits_contents bits_decodes

pub bits_writable : Writable (primitive_form (record { 0 = 3 }) bits_contents)
bits_writable = primitive_writable (record { 0 = 3 }) bits_contents bits_decodes (λ h. absurd (omega arith))

pub bits_tagged : Tagged (record { 0 = 3 }) (primitive_form (record { 0 = 3 }) bits_contents)
bits_tagged = primitive_tagged (record { 0 = 3 }) bits_contents
