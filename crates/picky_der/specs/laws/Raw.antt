-- The laws of a value kept as its bytes.
use Rattle.std.proofs.Common.{◌≡◌, ℕ, ◌%◌, true, eqb, List, [], ◌++◌, Ok, refl, sym, ap, subst, ◌∙◌}
use Rattle.std.specs.Prelude.{not}
use Rattle.std.proofs.lemmas.Bool.{ne_eqb}
use Rattle.std.proofs.lemmas.List.{append-nil}
use Rattle.picky_der.specs.Length.{TailIsBytes}
use Rattle.picky_der.specs.Reading.{raw_at, end_at}
use Rattle.picky_der.specs.Form.{Readable, Writable, IsOneValue, BeginsBy, Takes}
use Rattle.picky_der.specs.Raw.{raw_form}
use Rattle.picky_der.specs.laws.Steps.{ok_is, pair_fst}
use Rattle.picky_der.specs.laws.Depth.{within_none}
use Rattle.picky_der.specs.laws.Headers.{raw_again, raw_takes, raw_shorter, end_takes, BeginsBy-value}
use Rattle.picky_der.specs.laws.Prefixes.{raw_stays, raw_cut}

raw_prefix_free : (x y s t a b : List ℕ) → IsOneValue x → IsOneValue y → s ≡ x → t ≡ y → s ++ a ≡ t ++ b → (s ≡ t) × (x ≡ y)
raw_prefix_free x y s t a b f g p q e =
    let joined : x ++ a ≡ y ++ b = rw (p, q) at e in
    let same = ok_is (x, a) (y, b) (sym (raw_again x a f) ∙ ap raw_at joined ∙ raw_again y b g) in
    let x-is : x ≡ y = pair_fst _ _ same in
    (p ∙ x-is ∙ sym q, x-is)

raw_takes_form : (bytes x rest : List ℕ) → TailIsBytes bytes → raw_at bytes ≡ Ok (x, rest) → Takes IsOneValue (λ s x. s ≡ x) bytes x rest
raw_takes_form bytes x rest fits e =
    let t = raw_takes bytes x rest fits e in
    record { formed = t.0; spelling = x; spelled = refl; parts = t.1 }

raw_first : (s x : List ℕ) → IsOneValue x → s ≡ x → BeginsBy (λ b. not (eqb (b % 32) 31)) s
raw_first s x v e =
    let test : not (eqb (v.tag.0 % 32) 31) ≡ true = rw (ne_eqb (v.tag.0 % 32) 31 v.value.one_byte) refl in
    rw e (BeginsBy-value (λ b. not (eqb (b % 32) 31)) v.tag v.contents x test v.value)

pub raw_readable : Readable raw_form
raw_readable = record {
  one_value = λ s x f p. subst IsOneValue (sym p) f;
  prefix_free = raw_prefix_free;
  takes = λ _ bytes x rest fits e. raw_takes_form bytes x rest fits e;
  again = λ depth s rest x f p. rw p (raw_again x rest f) ∙ sym (within_none depth (x, rest));
  shorter = λ _ bytes x rest e. raw_shorter bytes x rest e;
  first = raw_first;
  cut = λ _ front back x f p some. raw_cut front back (subst IsOneValue (sym p) f) some;
  stays = λ _ bytes more e other h. raw_stays bytes more e other h;
}

pub raw_writable : Writable raw_form
raw_writable = record {
  encodes = λ s x _ p. p.1;
  written = λ s x p. subst IsOneValue (sym p.1) p.0;
  is_encoding = λ s x p. p.1;
  has_encoding = λ x f _. (f, refl);
  not_refused = λ s x p r. r p.0;
  accepted = λ x f r. r f;
}

-- bytes that are read whole are one value
pub raw_alone_is : (bytes s rest : List ℕ) (u : Unit {0}) → TailIsBytes bytes → raw_at bytes ≡ Ok (s, rest) → end_at rest ≡ Ok u → IsOneValue bytes
raw_alone_is bytes s rest u fits e n =
    let t = raw_takes bytes s rest fits e in
    let none : rest ≡ [] = end_takes rest u n in
    let same : s ≡ bytes = sym (t.1 ∙ ap (λ (r : List ℕ). s ++ r) none ∙ append-nil s) in
    subst IsOneValue same t.0
