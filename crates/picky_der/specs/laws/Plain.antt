-- The contents octets of NULL, BOOLEAN and UTF8String are decoded.
use Rattle.std.proofs.Common.{◌≡◌, ℕ, Bool, true, false, cond, eqb, List, [], ◌∷◌, Ok, Err, refl, sym, subst, ◌∙◌, arith, inl, inr}
use Rattle.std.proofs.lemmas.Bool.{eqb-true}
use Rattle.std.proofs.lemmas.Str.{IsUtf8-from_is_utf8, is_utf8-from_IsUtf8}
use Rattle.std.specs.Str.{IsUtf8, is_utf8}
use Rattle.picky_der.specs.declared.fault.DerError.TheVariants.{BadValue}
use Rattle.picky_der.specs.Form.{Readable, Writable, Tagged}
use Rattle.picky_der.specs.Primitive.{Decodes, primitive_form}
use Rattle.picky_der.specs.Plain.{null_of, null_contents, bool_octet, bool_of, bool_contents, utf8_of, utf8_contents}
use Rattle.picky_der.specs.laws.Steps.{chosen, need_ok, ok_is}
use Rattle.picky_der.specs.laws.Primitives.{primitive_readable, primitive_writable, primitive_tagged}

null_done : (octets : List ℕ) (x : Unit {0}) → null_of octets ≡ Ok x → octets ≡ []
null_done [] x e = refl
null_done (b ∷ bs) x e = absurd cc

pub null_decodes : Decodes null_contents
null_decodes = record {
  takes = λ octets x _ e. (tt, null_done octets x e);
  again = λ octets x _ p. rw p refl;
  has_octets = λ _ _. refl;
  one = λ s t x _ p q. p ∙ sym q;
}

bool_done : (octets : List ℕ) (x : Bool) → bool_of octets ≡ Ok x → octets ≡ bool_octet x ∷ []
bool_done [] x e = absurd cc
bool_done (b ∷ c ∷ cs) x e = absurd cc
bool_done (b ∷ []) x e =
    elim (chosen (eqb b 0) _ _ _ e) [
      | inl h ↦ rw (← ok_is false x h.1, eqb-true b 0 h.0) refl
      | inr h ↦ elim (chosen (eqb b 255) _ _ _ h.1) [
        | inl k ↦ rw (← ok_is true x k.1, eqb-true b 255 k.0) refl
        | inr k ↦ absurd (cc k.1)
      ]
    ]

bool_back : (x : Bool) → bool_of (bool_octet x ∷ []) ≡ Ok x
bool_back true = refl
bool_back false = refl

pub bool_decodes : Decodes bool_contents
bool_decodes = record {
  takes = λ octets x _ e. (tt, bool_done octets x e);
  again = λ octets x _ p. rw p (bool_back x);
  has_octets = λ _ _. refl;
  one = λ s t x _ p q. p ∙ sym q;
}

utf8_done : (octets x : List ℕ) → utf8_of octets ≡ Ok x → IsUtf8 x × (octets ≡ x)
utf8_done octets x e =
    let a = need_ok (is_utf8 octets) BadValue (Ok octets) x e in
    let same : octets ≡ x = ok_is octets x a.1 in
    (subst IsUtf8 same (IsUtf8-from_is_utf8 octets a.0), same)

utf8_back : (octets x : List ℕ) → IsUtf8 x → octets ≡ x → utf8_of octets ≡ Ok x
utf8_back octets x h e = rw (e, is_utf8-from_IsUtf8 x h) refl

pub utf8_decodes : Decodes utf8_contents
utf8_decodes = record {
  takes = λ octets x _ e. utf8_done octets x e;
  again = utf8_back;
  has_octets = λ _ _. refl;
  one = λ s t x _ p q. p ∙ sym q;
}

pub null_readable : Readable (primitive_form (record { 0 = 5 }) null_contents)
null_readable = primitive_readable (record { 0 = 5 }) null_contents null_decodes

pub null_writable : Writable (primitive_form (record { 0 = 5 }) null_contents)
null_writable = primitive_writable (record { 0 = 5 }) null_contents null_decodes (λ h. absurd (omega arith))

pub bool_readable : Readable (primitive_form (record { 0 = 1 }) bool_contents)
bool_readable = primitive_readable (record { 0 = 1 }) bool_contents bool_decodes

pub bool_writable : Writable (primitive_form (record { 0 = 1 }) bool_contents)
bool_writable = primitive_writable (record { 0 = 1 }) bool_contents bool_decodes (λ h. absurd (omega arith))

pub utf8_readable : Readable (primitive_form (record { 0 = 12 }) utf8_contents)
utf8_readable = primitive_readable (record { 0 = 12 }) utf8_contents utf8_decodes

pub utf8_writable : Writable (primitive_form (record { 0 = 12 }) utf8_contents)
utf8_writable = primitive_writable (record { 0 = 12 }) utf8_contents utf8_decodes (λ h. absurd (omega arith))

pub null_tagged : Tagged (record { 0 = 5 }) (primitive_form (record { 0 = 5 }) null_contents)
null_tagged = primitive_tagged (record { 0 = 5 }) null_contents

pub bool_tagged : Tagged (record { 0 = 1 }) (primitive_form (record { 0 = 1 }) bool_contents)
bool_tagged = primitive_tagged (record { 0 = 1 }) bool_contents

pub utf8_tagged : Tagged (record { 0 = 12 }) (primitive_form (record { 0 = 12 }) utf8_contents)
utf8_tagged = primitive_tagged (record { 0 = 12 }) utf8_contents

pub utf8_ok : (octets text : List ℕ) → text ≡ octets → IsUtf8 octets → utf8_of octets ≡ Ok text
utf8_ok octets text e h = utf8_back octets text (subst IsUtf8 (sym e) h) (sym e)

pub utf8_bad : (octets : List ℕ) → ¬ (IsUtf8 octets) → utf8_of octets ≡ Err BadValue
utf8_bad octets h = elim (is_utf8 octets) as (λ b. is_utf8 octets ≡ b → (cond b (Ok octets) (Err BadValue)) ≡ Err BadValue) [
  | true ↦ λ e. absurd (h (IsUtf8-from_is_utf8 octets e))
  | false ↦ λ e. refl
] refl
