-- Lists that are read and written item by item.
use Rattle.std.proofs.Common.{◌≡◌, ℕ, zero, suc, ◌+◌, ◌<◌, ◌≤◌, List, [], ◌∷◌, ◌++◌, length, get_or, take, map, Some, refl, sym, ap, ◌∙◌, arith}
use Rattle.std.proofs.lemmas.List.{take_more, map-append, take_all}
use Rattle.std.specs.List.{AllZip}
use Rattle.serde_json.specs.Data.{Data, null, boolean, number, string, array, object, Items}
use Rattle.serde_json.specs.Find.{as_array}
use Rattle.serde_json.specs.View.{items_of}
use Rattle.picky_members.specs.declared.form.FormError.{FormError}
use Rattle.picky_members.specs.Members.{IsList}
use Rattle.picky_members.specs.Reading.{NoneOf}
use Rattle.picky_members.specs.Writing.{list_tree}
use Rattle.picky_members.specs.laws.Once.{same_items}

-- a tree that has items is an array
pub array_form : (d : Data) (is : Items) → as_array d ≡ Some is → d ≡ array is
array_form null is e = cc
array_form (boolean b) is e = cc
array_form (number n) is e = cc
array_form (string s) is e = cc
array_form (array ds) is e = cc
array_form (object ms) is e = cc

-- ---- reading

zip_more : {A : Type 0} (R : Data → A → Type 0) (ds : List Data) (ys : List A) (d : Data) (y : A) → AllZip R ds ys → R d y → AllZip R (ds ++ d ∷ []) (ys ++ y ∷ [])
zip_more R [] [] d y h k = (k, tt)
zip_more R [] (z ∷ ys) d y h k = absurd h
zip_more R (e ∷ ds) [] d y h k = absurd h
zip_more R (e ∷ ds) (z ∷ ys) d y h k = (h.0, zip_more R ds ys d y h.1 k)

-- one more item
pub told_more : {A B V : Type 0} (R : Data → A → Type 0) (f : B → Data) (see : V → A) (xs : List B) (i : ℕ) (x : B) (vs ws : List V) (v : V) → i < length xs → x ≡ get_or xs i x
    → AllZip R (map f (take i xs)) (map see vs) → R (f x) (see v) → ws ≡ vs ++ v ∷ [] → AllZip R (map f (take (i + 1) xs)) (map see ws)
told_more R f see xs i x vs ws v lt at h k pushed =
    let more : take (i + 1) xs ≡ take i xs ++ x ∷ [] = take_more xs i x lt ∙ ap (λ z. take i xs ++ z ∷ []) (sym at) in
    rw (more, pushed, map-append, map-append) (zip_more R (map f (take i xs)) (map see vs) (f x) (see v) h k)

pub told_all : {A B : Type 0} (R : Data → A → Type 0) (f : B → Data) (xs : List B) (i : ℕ) (ys : List A) → length xs ≤ i → AllZip R (map f (take i xs)) ys → AllZip R (map f xs) ys
told_all R f xs i ys past h = rw (take_all i xs past) at h

zip_at : {A B : Type 0} (R : Data → A → Type 0) (f : B → Data) (xs : List B) (i : ℕ) (x : B) (ys : List A) → i < length xs → x ≡ get_or xs i x → AllZip R (map f xs) ys → (y : A) × R (f x) y
zip_at R f [] i x ys lt at h = absurd (omega arith)
zip_at R f (z ∷ xs) i x [] lt at h = absurd h
zip_at R f (z ∷ xs) zero x (y ∷ ys) lt at h = (y, rw at h.0)
zip_at R f (z ∷ xs) (suc i) x (y ∷ ys) lt at h = zip_at R f xs i x ys (omega arith) at h.1

-- an item that tells nothing: the list tells nothing
pub item_none : {A B : Type 0} (R : Data → A → Type 0) (f : B → Data) (d : Data) (xs : List B) (i : ℕ) (x : B) (e : FormError) → d ≡ array (items_of (map f xs))
    → i < length xs → x ≡ get_or xs i x → NoneOf (R (f x)) e → NoneOf (IsList R d) e
item_none R f d xs i x e is lt at n = record { none = λ h ys l. let p = zip_at R f xs i x ys lt at (same_items R d (map f xs) is ys l) in n.none h p.0 p.1 }

pub list_not_null : {A : Type 0} (R : Data → A → Type 0) (xs : List A) → ¬ (IsList R null xs)
list_not_null R xs l = let e = l.form in cc

-- ---- writing

-- one more item, seen by f where it is written and by g where it stood
pub map_more : {A B C : Type 0} (f : A → C) (g : B → C) (xs : List B) (ys now : List A) (i : ℕ) (x : B) (y : A) → i < length xs → x ≡ get_or xs i x
    → map f ys ≡ map g (take i xs) → f y ≡ g x → now ≡ ys ++ y ∷ [] → map f now ≡ map g (take (i + 1) xs)
map_more f g xs ys now i x y lt e p q n =
    let more : take (i + 1) xs ≡ take i xs ++ x ∷ [] = take_more xs i x lt ∙ ap (λ z. take i xs ++ z ∷ []) (sym e) in
    rw (n, more, map-append, map-append, p, q) refl

pub map_all : {A B C : Type 0} (f : A → C) (g : B → C) (xs : List B) (ys : List A) (i : ℕ) → length xs ≤ i → map f ys ≡ map g (take i xs) → map f ys ≡ map g xs
map_all f g xs ys i past p = p ∙ ap (map g) (take_all i xs past)

each_written : {A : Type 0} (R : Data → A → Type 0) (tree : A → Data) → ((y : A) → R (tree y) y) → (xs : List A) → AllZip R (map tree xs) xs
each_written R tree back [] = tt
each_written R tree back (x ∷ xs) = (back x, each_written R tree back xs)

-- a list as it is written tells its values
pub list_written : {A : Type 0} (R : Data → A → Type 0) (tree : A → Data) → ((y : A) → R (tree y) y) → (xs : List A) → IsList R (list_tree tree xs) xs
list_written R tree back xs = record { items = map tree xs; form = refl; each = each_written R tree back xs }
