-- The laws of a run seen as another type, some of whose values are never read.
use Rattle.std.proofs.Common.{◌≡◌, ℕ, List, ◌++◌, Ok, refl, sym, ap, subst, ◌∙◌}
use Rattle.std.specs.Prelude.{false}
use Rattle.picky_der.specs.Length.{IsBytes}
use Rattle.picky_der.specs.Reading.{within}
use Rattle.picky_der.specs.Form.{Takes}
use Rattle.picky_der.specs.laws.Steps.{ok_is, bind_ok}
use Rattle.picky_fields.specs.Fields.{Fields, stands_next, seen_at}
use Rattle.picky_fields.specs.SeenAgain.{seen_again, SeesAgain}
use Rattle.picky_fields.specs.laws.Depths.{at_map}
use Rattle.picky_fields.specs.laws.Fields.{ReadableFields, LawfulFields}

module _ {X Y : Type 0} (to : X → Y) (from : Y → X) (f : Fields X) (sees : SeesAgain f.in_form to from) where
  abbrev view : Fields Y
  view = seen_again to from f

  one_way : ReadableFields f → (x y : Y) (s t a b : List ℕ) → view.in_form x → view.in_form y → view.Spells s x → view.Spells t y → stands_next f.takes_more a ≡ false → stands_next f.takes_more b ≡ false → s ++ a ≡ t ++ b → (s ≡ t) × (x ≡ y)
  one_way law x y s t a b h i p q m n e =
      let k = law.one_way p.value q.value s t a b p.formed q.formed p.spelled q.spelled m n e in
      (k.0, sym p.means ∙ ap to k.1 ∙ q.means)

  taken : (bytes r rest : List ℕ) (w : X) (y : Y) → Takes f.in_form f.Spells bytes w r → ◌≡◌ {A = Y × List ℕ} (to w, r) (y, rest) → Takes view.in_form view.Spells bytes y rest
  taken bytes r rest w y t same =
      subst (λ (p : Y × List ℕ). Takes view.in_form view.Spells bytes p.0 p.1) same
      (record { formed = (sees.formed w t.formed, sees.again w t.formed); spelling = t.spelling; spelled = record { value = w; formed = t.formed; spelled = t.spelled; means = refl }; parts = t.parts })

  takes : ReadableFields f → (depth : ℕ) (bytes : List ℕ) (y : Y) (rest : List ℕ) → IsBytes bytes → seen_at to f.reading depth bytes ≡ Ok (y, rest) → Takes view.in_form view.Spells bytes y rest
  takes law depth bytes y rest fits e =
      let v = bind_ok (f.reading depth bytes) (λ x. Ok (to x.0, x.1)) (y, rest) e in
      taken bytes v.0.1 rest v.0.0 y (law.takes depth bytes v.0.0 v.0.1 fits v.1) (ok_is (to v.0.0, v.0.1) (y, rest) v.2)

  again : ReadableFields f → (depth : ℕ) (s rest : List ℕ) (y : Y) → view.in_form y → (p : view.Spells s y) → stands_next f.takes_more rest ≡ false → seen_at to f.reading depth (s ++ rest) ≡ within depth (view.height s y p) (y, rest)
  again law depth s rest y h p m =
      at_map depth _ _ (λ x. Ok (to x.0, x.1)) (p.value, rest) (y, rest) (law.again depth s rest p.value p.formed p.spelled m) (ap (λ (z : Y). Ok (z, rest)) p.means)

  lawful : LawfulFields f → LawfulFields view
  lawful law = record {
    readable = record { one_way = one_way law.readable; takes = takes law.readable; again = again law.readable; first = λ s y h p. law.readable.first s p.value p.formed p.spelled };
    writable = record {
      encodes = λ s y h p. record { value = from y; formed = h.0; spelled = law.writable.encodes s (from y) h.0 p; means = h.1 };
      is_encoding = λ s y p. law.writable.is_encoding s (from y) p;
      has_encoding = λ y h fits. law.writable.has_encoding (from y) h.0 fits;
      not_refused = λ s y p r. law.writable.not_refused s (from y) p r;
      accepted = λ y h r. law.writable.accepted (from y) h.0 r;
    };
  }

pub seen_again_lawful : {X Y : Type 0} {f : Fields X} {to : X → Y} {from : Y → X} → SeesAgain f.in_form to from → LawfulFields f → LawfulFields (seen_again to from f)
seen_again_lawful {f = f} {to = to} {from = from} sees law = lawful to from f sees law

-- where a value in form is written as it was read
pub sees_as_written : {X Y : Type 0} {P : X → Type 0} {to : X → Y} {from : Y → X} → ((x : X) → P x → from (to x) ≡ x) → SeesAgain P to from
sees_as_written {P = P} {to = to} forth = record { formed = λ x h. subst P (sym (forth x h)) h; again = λ x h. ap to (forth x h) }
