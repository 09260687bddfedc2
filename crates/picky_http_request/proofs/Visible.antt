-- Values taken one by one.
use Rattle.std.proofs.Common.{◌≡◌, ℕ, ◌<◌, true, false, List, [], ◌∷◌, ◌++◌, map, length, refl, sym, ◌∙◌, ap, get_or, inl, inr, Bor}
use Rattle.std.specs.Prelude.{Err}
use Rattle.std.specs.List.{list_all}
use Rattle.std.specs.Str.{trim}
use Rattle.std.proofs.lemmas.Bool.{cases_Bool}
use Rattle.std.proofs.lemmas.List.{map-append}
use Rattle.std.proofs.lemmas.List.Folds.{list_all-append, list_all-map, list_all_at}
use Rattle.std.proofs.lemmas.List.Sums.{AllPass-from_list_all, list_all-from_AllPass}
use Rattle.http_header.specs.FieldValue.{FieldValue, IsVisibleAscii}
use Rattle.picky_http_request.specs.Answers.{not_text}
use Rattle.picky_http_request.specs.Values.{is_text_byte, values_answer}

pub texts_push : {X : Type 0} (f : X → List ℕ) (xs : List X) (x : X) → list_all (list_all is_text_byte) (map f xs) ≡ true → list_all is_text_byte (f x) ≡ true
    → list_all (list_all is_text_byte) (map f (xs ++ x ∷ [])) ≡ true
texts_push f xs x all one =
    ap (list_all (list_all is_text_byte)) (map-append f xs (x ∷ [])) ∙ list_all-append (list_all is_text_byte) (map f xs) (f x ∷ []) ∙ rw (all, one) refl

pub trims_push : {X Y : Type 0} (f : X → List ℕ) (g : Y → List ℕ) (xs : List X) (x : X) (ys new : List Y) (y : Y) → map g ys ≡ map trim (map f xs) → g y ≡ trim (f x) → new ≡ ys ++ y ∷ []
    → map g new ≡ map trim (map f (xs ++ x ∷ []))
trims_push f g xs x ys new y all one e =
    ap (map g) e ∙ map-append g ys (y ∷ []) ∙ ap (λ (t : List (List ℕ)). t ++ g y ∷ []) all ∙ ap (λ (t : List ℕ). map trim (map f xs) ++ t ∷ []) one
    ∙ sym (ap (map trim) (map-append f xs (x ∷ [])) ∙ map-append trim (map f xs) (f x ∷ []))

pub visible : (bytes : List ℕ) → IsVisibleAscii bytes → list_all is_text_byte bytes ≡ true
visible bytes h = list_all-from_AllPass is_text_byte bytes h

pub not_visible : (bytes : List ℕ) → (IsVisibleAscii bytes → ⊥) → list_all is_text_byte bytes ≡ false
not_visible bytes h = elim (cases_Bool (list_all is_text_byte bytes)) [ inl e ↦ absurd (h (AllPass-from_list_all is_text_byte bytes e)) | inr e ↦ e ]

-- a value that is no text
pub bad_value : (name : List ℕ) (all : List FieldValue) (i : ℕ) (v : FieldValue) → i < length all → v ≡ get_or all i v → list_all is_text_byte v.bytes ≡ false
    → values_answer name (map (λ x. x.bytes) all) ≡ Err (not_text name)
bad_value name all i v l e b =
    let bad : list_all (list_all is_text_byte) (map (λ (x : FieldValue). x.bytes) all) ≡ false =
    list_all-map (list_all is_text_byte) (λ (x : FieldValue). x.bytes) all ∙ list_all_at (λ (x : FieldValue). list_all is_text_byte x.bytes) all i v l (rw (← e) b) in
    rw bad refl

pub map_through : (ys : List (Bor FieldValue)) → map (λ v. v.now.bytes) ys ≡ map (λ (x : FieldValue). x.bytes) (map (λ v. v.now) ys)
map_through [] = refl
map_through (y ∷ ys) = ap (λ (t : List (List ℕ)). y.now.bytes ∷ t) (map_through ys)

-- all values, once each has come
pub all_bytes : (ys : List (Bor FieldValue)) (all : List FieldValue) → map (λ v. v.now) ys ≡ all → map (λ v. v.now.bytes) ys ≡ map (λ (x : FieldValue). x.bytes) all
all_bytes ys all e = map_through ys ∙ ap (map (λ (x : FieldValue). x.bytes)) e
