-- The laws of a type whose contents octets are decoded.
use Rattle.std.proofs.Common.{◌≡◌, ◌≢◌, ℕ, ◌%◌, ◌<◌, eqb, List, [], ◌++◌, length, Ok, Err, refl, sym, ap, subst, ◌∙◌, arith}
use Rattle.picky_asn1_tag.specs.declared.tag.Tag.{Tag}
use Rattle.picky_der.specs.declared.fault.DerError.TheVariants.{Truncated}
use Rattle.picky_der.specs.Length.{TailIsBytes, value_of}
use Rattle.picky_der.specs.Reading.{◌>>=◌, within, value_at}
use Rattle.picky_der.specs.Form.{Readable, Writable, Tagged, IsValue, Takes}
use Rattle.picky_der.specs.Primitive.{Contents, Decodes, SpellsPrimitive, primitive_at, primitive_form}
use Rattle.picky_der.specs.laws.Steps.{ok_is, bind_ok, pair_snd}
use Rattle.picky_der.specs.laws.Depth.{within_none}
use Rattle.picky_der.specs.laws.Headers.{IsValue-same, IsValue-again, IsValue-of, IsBytes-contents, BeginsBy-value, value_takes, value_shorter, eqb_same}
use Rattle.picky_der.specs.laws.Prefixes.{Stays, kept_fault, value_goes_on, value_stays, value_cut, then_stays}

module _ {X : Type 0} (tag : Tag) (k : Contents X) (law : Decodes k) where
  same_octets : (c d : List ℕ) (x y : X) → k.in_form x → k.in_form y → k.Octets c x → k.Octets d y → c ≡ d → x ≡ y
  same_octets c d x y f g p q e = ok_is x y (sym (law.again c x f p) ∙ ap k.decode e ∙ law.again d y g q)

  taken : (bytes c r rest : List ℕ) (w x : X) → IsValue tag c (value_of tag.0 c) → bytes ≡ value_of tag.0 c ++ r → k.in_form w → k.Octets c w → ◌≡◌ {A = X × List ℕ} (w, r) (x, rest) → Takes k.in_form (SpellsPrimitive tag k.Octets) bytes x rest
  taken bytes c r rest w x v parts formed spelled same =
      subst (λ (p : X × List ℕ). Takes k.in_form (SpellsPrimitive tag k.Octets) bytes p.0 p.1) same
      (record { formed = formed; spelling = value_of tag.0 c; spelled = record { octets = c; value = v; stands_for = spelled }; parts = parts })

  primitive_takes : (depth : ℕ) (bytes : List ℕ) (x : X) (rest : List ℕ) → TailIsBytes bytes → primitive_at tag k.decode depth bytes ≡ Ok (x, rest) → Takes k.in_form (SpellsPrimitive tag k.Octets) bytes x rest
  unfolding primitive_at
  primitive_takes depth bytes x rest fits e =
      let v = bind_ok (value_at tag bytes) (λ v. k.decode v.0 >>= λ x. Ok (x, v.1)) (x, rest) e in
      let w = bind_ok (k.decode v.0.0) (λ x. Ok (x, v.0.1)) (x, rest) v.2 in
      let t = value_takes tag bytes v.0.0 v.0.1 fits v.1 in
      let h = law.takes v.0.0 w.0 (IsBytes-contents tag.0 v.0.0 v.0.1 (subst TailIsBytes t.1 fits)) w.1 in
      taken bytes v.0.0 v.0.1 rest w.0 x t.0 t.1 h.0 h.1 (ok_is (w.0, v.0.1) (x, rest) w.2)

  primitive_again : (depth : ℕ) (s rest : List ℕ) (x : X) → k.in_form x → SpellsPrimitive tag k.Octets s x → primitive_at tag k.decode depth (s ++ rest) ≡ within depth 0 (x, rest)
  unfolding primitive_at
  primitive_again depth s rest x formed p =
      let h : k.decode p.octets ≡ Ok x = law.again p.octets x formed p.stands_for in
      rw (IsValue-again tag p.octets s rest p.value, h) (sym (within_none depth (x, rest)))

  primitive_shorter : (depth : ℕ) (bytes : List ℕ) (x : X) (rest : List ℕ) → primitive_at tag k.decode depth bytes ≡ Ok (x, rest) → length rest < length bytes
  unfolding primitive_at
  primitive_shorter depth bytes x rest e =
      let v = bind_ok (value_at tag bytes) (λ v. k.decode v.0 >>= λ x. Ok (x, v.1)) (x, rest) e in
      let w = bind_ok (k.decode v.0.0) (λ x. Ok (x, v.0.1)) (x, rest) v.2 in
      omega (arith, value_shorter tag bytes v.0.0 v.0.1 v.1, ap length (pair_snd _ _ (ok_is (w.0, v.0.1) (x, rest) w.2)))

  primitive_cut : (depth : ℕ) (front back : List ℕ) (x : X) → k.in_form x → SpellsPrimitive tag k.Octets (front ++ back) x → back ≢ [] → primitive_at tag k.decode depth front ≡ Err Truncated
  unfolding primitive_at
  primitive_cut depth front back x formed p some = rw (value_cut tag p.octets front back p.value some) refl

  primitive_stays : (depth : ℕ) → Stays (primitive_at tag k.decode depth)
  unfolding primitive_at
  primitive_stays depth = then_stays (value_at tag) (λ v. k.decode v.0 >>= λ x. Ok (x, v.1)) (value_goes_on tag) (value_stays tag) (λ c rest other e h. kept_fault (k.decode c) (λ x. x) rest other e h)

  pub primitive_readable : Readable (primitive_form tag k)
  primitive_readable = record {
    one_value = λ s x _ p. record { tag = tag; contents = p.octets; value = p.value };
    prefix_free = λ x y s t a b f g p q e.
        let h = IsValue-same tag p.octets q.octets s t a b p.value q.value e in
        (h.0, same_octets p.octets q.octets x y f g p.stands_for q.stands_for h.1);
    takes = primitive_takes;
    again = primitive_again;
    shorter = primitive_shorter;
    first = λ s x _ p. BeginsBy-value (λ b. eqb b tag.0) tag p.octets s (eqb_same tag.0) p.value;
    cut = primitive_cut;
    stays = primitive_stays;
  }

  pub primitive_writable : tag.0 % 32 ≢ 31 → Writable (primitive_form tag k)
  primitive_writable one_byte = record {
    encodes = λ s x _ p. p.1;
    written = λ s x p. record { tag = tag; contents = p.1.octets; value = p.1.value };
    is_encoding = λ s x p. p.1.value.bytes_are ∙ ap (value_of tag.0) (law.one p.1.octets (k.octets x) x p.0 p.1.stands_for (law.has_octets x p.0));
    has_encoding = λ x f fits. (f, record { octets = k.octets x; value = IsValue-of tag (k.octets x) one_byte fits; stands_for = law.has_octets x f });
    not_refused = λ s x p r. r p.0;
    accepted = λ x f r. r f;
  }

pub primitive_tagged : {X : Type 0} (tag : Tag) (k : Contents X) → Tagged tag (primitive_form tag k)
primitive_tagged tag k = record {
  first = λ s x _ p. BeginsBy-value (λ b. eqb b tag.0) tag p.octets s (eqb_same tag.0) p.value;
  no_other = λ b. refl;
}
