-- The fields of a request head.
use Rattle.std.proofs.Common.{◌≡◌, ℕ, zero, suc, inl, inr, ◌+◌, ◌<◌, Bool, true, false, ◌&&◌, List, [], ◌∷◌, ◌++◌, length, map, refl, sym, ◌∙◌, ap, arith, get_or, take, rules, append_assoc, length-take, lit<, append-nil}
use Rattle.std.specs.Prelude.{filter, Err}
use Rattle.std.specs.List.{list_all}
use Rattle.std.specs.Str.{IsAscii}
use Rattle.std.proofs.lemmas.Bool.{cases_Bool, and_parts, and_left, and_right, or_cases, eqb-true, ltb-true}
use Rattle.std.proofs.lemmas.List.Elements.{filter-append}
use Rattle.std.proofs.lemmas.List.Folds.{list_all-append}
use Rattle.picky_http_request.specs.Answers.{not_text}
use Rattle.std.specs.Prelude.{◌==◌, nat_le, nat_lt}
use Rattle.std.proofs.lemmas.List.{map_more, map-append, length-map, take_more}
use Rattle.picky_http_request.specs.declared.head.RequestField.{RequestField}
use Rattle.picky_http_request.specs.Heads.{has_name, values_of}
use Rattle.picky_http_request.specs.Values.{is_text_byte, join_texts, values_answer}

byte_is_ascii : (b : ℕ) → is_text_byte b ≡ true → b < 128
byte_is_ascii b h =
    elim (or_cases (b == 9) (nat_le 32 b && nat_lt b 127) h) [
      | inl e ↦ omega (arith, eqb-true b 9 e)
      | inr e ↦ omega (arith, ltb-true b 127 (and_parts (nat_le 32 b) (nat_lt b 127) e).1)
    ]

-- text bytes are ASCII
pub text_is_ascii : (bs : List ℕ) → list_all is_text_byte bs ≡ true → IsAscii bs
text_is_ascii [] h i = lit< tt
text_is_ascii (b ∷ bs) h zero = byte_is_ascii b (and_parts (is_text_byte b) (list_all is_text_byte bs) h).0
text_is_ascii (b ∷ bs) h (suc i) = text_is_ascii bs (and_parts (is_text_byte b) (list_all is_text_byte bs) h).1 i

-- one more text
join_push : (s : List ℕ) (xs : List (List ℕ)) (x : List ℕ) → 0 < length xs → join_texts s (xs ++ x ∷ []) ≡ (join_texts s xs ++ s) ++ x
join_push s [] x h = absurd (omega arith)
join_push s (y ∷ []) x h = sym (append_assoc y s x)
join_push s (y ∷ z ∷ zs) x h =
    ap (λ (t : List ℕ). y ++ (s ++ t)) (join_push s (z ∷ zs) x (omega arith)) ∙ search (rules, append_assoc)

pub join_texts_more : {X : Type 0} (s : List ℕ) (f : X → List ℕ) (xs : List X) (i : ℕ) (d : X) → i < length xs → 0 < i
    → join_texts s (map f (take (i + 1) xs)) ≡ (join_texts s (map f (take i xs)) ++ s) ++ f (get_or xs i d)
join_texts_more s f xs i d h some =
    ap (join_texts s) (map_more f xs i d h)
    ∙ join_push s (map f (take i xs)) (f (get_or xs i d)) (rw length-map (omega (arith, length-take i xs)))

pub join_texts_first : {X : Type 0} (s : List ℕ) (f : X → List ℕ) (xs : List X) (i : ℕ) (d : X) → i < length xs → i ≡ 0
    → join_texts s (map f (take (i + 1) xs)) ≡ join_texts s (map f (take i xs)) ++ f (get_or xs i d)
join_texts_first s f xs i d h none = ap (join_texts s) (map_more f xs i d h) ∙ rw none refl

-- a value that is no text
pub bad_value : (name : List ℕ) (fs : List RequestField) (i : ℕ) (x : RequestField) → i < length fs → x ≡ get_or fs i x → has_name name x ≡ true
    → list_all is_text_byte x.value.items ≡ false → list_all (list_all is_text_byte) (values_of name fs) ≡ false
bad_value name [] i x l e h b = absurd (omega arith)
bad_value name (f ∷ fs) zero x l e h b =
    rw (rw e at h) (and_left _ _ (rw e at b))
bad_value name (f ∷ fs) (suc i) x l e h b =
    let rest = bad_value name fs i x (omega arith) e h b in
    elim (cases_Bool (has_name name f)) [ inl y ↦ rw y (and_right _ _ rest) | inr n ↦ rw n rest ]

-- one more field
values_append : (name : List ℕ) (xs ys : List RequestField) → values_of name (xs ++ ys) ≡ values_of name xs ++ values_of name ys
values_append name xs ys =
    ap (map (λ (f : RequestField). f.value.items)) (filter-append (has_name name) xs ys)
    ∙ map-append (λ (f : RequestField). f.value.items) (filter (has_name name) xs) (filter (has_name name) ys)

values_one : (name : List ℕ) (f : RequestField) → has_name name f ≡ true → values_of name (f ∷ []) ≡ f.value.items ∷ []
values_one name f h = rw h refl

values_none : (name : List ℕ) (f : RequestField) → has_name name f ≡ false → values_of name (f ∷ []) ≡ []
values_none name f h = rw h refl

pub values_yes : (name : List ℕ) (fs : List RequestField) (i : ℕ) (x : RequestField) → i < length fs → x ≡ get_or fs i x → has_name name x ≡ true
    → values_of name (take (i + 1) fs) ≡ values_of name (take i fs) ++ x.value.items ∷ []
values_yes name fs i x l e h =
    ap (values_of name) (take_more fs i x l) ∙ values_append name (take i fs) (get_or fs i x ∷ [])
    ∙ ap (λ (y : RequestField). values_of name (take i fs) ++ values_of name (y ∷ [])) (sym e)
    ∙ ap (λ (t : List (List ℕ)). values_of name (take i fs) ++ t) (values_one name x h)

pub values_no : (name : List ℕ) (fs : List RequestField) (i : ℕ) (x : RequestField) → i < length fs → x ≡ get_or fs i x → has_name name x ≡ false
    → values_of name (take (i + 1) fs) ≡ values_of name (take i fs)
values_no name fs i x l e h =
    ap (values_of name) (take_more fs i x l) ∙ values_append name (take i fs) (get_or fs i x ∷ [])
    ∙ ap (λ (y : RequestField). values_of name (take i fs) ++ values_of name (y ∷ [])) (sym e)
    ∙ ap (λ (t : List (List ℕ)). values_of name (take i fs) ++ t) (values_none name x h)
    ∙ append-nil (values_of name (take i fs))

pub same_bool : (a b : Bool) → (a ≡ true → b ≡ true) → (b ≡ true → a ≡ true) → a ≡ b
same_bool true b h k = sym (h refl)
same_bool false true h k = k refl
same_bool false false h k = refl

-- a run of text values with one more
pub texts_more : (name : List ℕ) (fs : List RequestField) (i : ℕ) (x : RequestField) → i < length fs → x ≡ get_or fs i x → has_name name x ≡ true
    → list_all is_text_byte x.value.items ≡ true → list_all (list_all is_text_byte) (values_of name (take i fs)) ≡ true → list_all (list_all is_text_byte) (values_of name (take (i + 1) fs)) ≡ true
texts_more name fs i x l e h t all =
    rw (values_yes name fs i x l e h)
    (list_all-append (list_all is_text_byte) (values_of name (take i fs)) (x.value.items ∷ []) ∙ rw (all, t) refl)

pub answer_bad : (name : List ℕ) (fs : List RequestField) → list_all (list_all is_text_byte) (values_of name fs) ≡ false → values_answer name (values_of name fs) ≡ Err (not_text name)
answer_bad name fs h = rw h refl
