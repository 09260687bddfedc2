-- A member tells one value at most, where a tree does.
use Rattle.std.proofs.Common.{◌≡◌, ◌⊎◌, ℕ, List, [], ◌∷◌, Option, None, Some, refl, sym, ◌∙◌, ap, subst, inl, inr}
use Rattle.std.specs.List.{AllZip}
use Rattle.serde_json.specs.Data.{Data, null, array}
use Rattle.serde_json.specs.View.{items_of}
use Rattle.picky_json.specs.laws.Trees.{tree_is_determined}
use Rattle.picky_members.specs.Members.{IsMember, IsOptional, IsSpelledEither, IsList, TextOf}

-- a tree tells one value at most
abbrev pub Once : {A : Type 0} → (Data → A → Type 0) → Type 0
Once {A = A} R = (d : Data) (x y : A) → R d x → R d y → y ≡ x

-- null tells nothing
abbrev pub NotNull : {A : Type 0} → (Data → A → Type 0) → Type 0
NotNull {A = A} R = (x : A) → ¬ (R null x)

pub member_once : {A : Type 0} (R : Data → A → Type 0) → Once R → (m : Option Data) (x y : A) → IsMember R m x → IsMember R m y → y ≡ x
unfolding IsMember
member_once R once m x y h k =
    let there : Some k.0 ≡ Some h.0 = sym k.1 ∙ h.1 in
    let same : k.0 ≡ h.0 = cc in
    once h.0 x y h.2 (subst (λ d. R d y) same k.2)

-- what is absent tells nothing
absent : {A : Type 0} (R : Data → A → Type 0) → NotNull R → (m : Option Data) (x : A) → (m ≡ None) ⊎ (m ≡ Some null) → IsMember R m x → ⊥
unfolding IsMember
absent R not_null m x (inl e) h = let clash : Some h.0 ≡ None = sym h.1 ∙ e in cc
absent R not_null m x (inr e) h =
    let there : Some h.0 ≡ Some null = sym h.1 ∙ e in
    let same : h.0 ≡ null = cc in
    not_null x (subst (λ d. R d x) same h.2)

pub optional_once : {A : Type 0} (R : Data → A → Type 0) → Once R → NotNull R → (m : Option Data) (x y : Option A) → IsOptional R m x → IsOptional R m y → y ≡ x
optional_once R once not_null m None None h k = refl
optional_once R once not_null m None (Some y) h k = absurd (absent R not_null m y h k)
optional_once R once not_null m (Some x) None h k = absurd (absent R not_null m x k h)
optional_once R once not_null m (Some x) (Some y) h k = ap Some (member_once R once m x y h k)

none_of : {A : Type 0} (R : Data → A → Type 0) → NotNull R → (m : Option Data) → m ≡ None → (x : Option A) → IsOptional R m x → x ≡ None
none_of R not_null m e None h = refl
none_of R not_null m e (Some x) h = absurd (absent R not_null m x (inl e) h)

pub either_once : {A : Type 0} (R : Data → A → Type 0) → Once R → NotNull R → (m n : Option Data) (x y : Option A) → IsSpelledEither R m n x → IsSpelledEither R m n y → y ≡ x
either_once R once not_null m n x y (inl h) (inl k) = optional_once R once not_null m x y h.1 k.1
either_once R once not_null m n x y (inl h) (inr k) = none_of R not_null n h.0 y k.1 ∙ sym (none_of R not_null m k.0 x h.1)
either_once R once not_null m n x y (inr h) (inl k) = none_of R not_null m h.0 y k.1 ∙ sym (none_of R not_null n k.0 x h.1)
either_once R once not_null m n x y (inr h) (inr k) = optional_once R once not_null n x y h.1 k.1

-- lists of trees that are seen alike are the same
pub one_items : (xs ys : List Data) → items_of xs ≡ items_of ys → xs ≡ ys
one_items [] [] e = refl
one_items [] (y ∷ ys) e = cc
one_items (x ∷ xs) [] e = cc
one_items (x ∷ xs) (y ∷ ys) e =
    let rest : items_of xs ≡ items_of ys = cc in
    cc (one_items xs ys rest)

zip_once : {A : Type 0} (R : Data → A → Type 0) → Once R → (ds : List Data) (xs ys : List A) → AllZip R ds xs → AllZip R ds ys → ys ≡ xs
zip_once R once [] [] [] h k = refl
zip_once R once [] [] (y ∷ ys) h k = absurd k
zip_once R once [] (x ∷ xs) ys h k = absurd h
zip_once R once (d ∷ ds) [] ys h k = absurd h
zip_once R once (d ∷ ds) (x ∷ xs) [] h k = absurd k
zip_once R once (d ∷ ds) (x ∷ xs) (y ∷ ys) h k =
    let first : y ≡ x = once d x y h.0 k.0 in
    let rest : ys ≡ xs = zip_once R once ds xs ys h.1 k.1 in
    cc (first, rest)

-- the items of a list are these
pub same_items : {A : Type 0} (R : Data → A → Type 0) (d : Data) (ds : List Data) → d ≡ array (items_of ds) → (xs : List A) → IsList R d xs → AllZip R ds xs
same_items R d ds is xs l =
    let f = l.form in
    let e : items_of l.items ≡ items_of ds = cc in
    subst (λ es. AllZip R es xs) (one_items l.items ds e) l.each

pub list_once : {A : Type 0} (R : Data → A → Type 0) → Once R → Once (IsList R)
list_once R once d xs ys h k = zip_once R once h.items xs ys h.each (same_items R d h.items h.form ys k)

pub text_once : {A : Type 0} (R : Data → A → Type 0) → Once R → (text : List ℕ) (x y : A) → TextOf R text x → TextOf R text y → y ≡ x
text_once R once text x y h k =
    let tree : k.tree ≡ h.tree = tree_is_determined text h.tree k.tree h.read k.read in
    once h.tree x y h.tells (subst (λ d. R d y) tree k.tells)
