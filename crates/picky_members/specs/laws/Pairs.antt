-- Members that are taken over one after another.
use Rattle.std.proofs.Common.{◌≡◌, ℕ, List, [], ◌∷◌, ◌++◌, Bool, true, false, cond, None, String, Global, Less, Equal, string_bytes, string_cmp, nat_cmp, refl, sym, subst, ◌∙◌, append_assoc}
use Rattle.std.specs.BTreeMap.{insert_entry}
use Rattle.std.specs.Cmp.Lexicographic.{slice_cmp}
use Rattle.std.specs.List.{AllByRecursion}
use Rattle.std.specs.List.Sorted.{IsStrictlySortedBy}
use Rattle.std.specs.Map.{keys_of, lookup}
use Rattle.std.specs.Str.{bytes_eq}
use Rattle.std.specs.String.{string_eq}
use Rattle.std.proofs.lemmas.Cmp.{nat_list_cmp_total, tied_itself}
use Rattle.std.proofs.lemmas.List.{map-append}
use Rattle.std.proofs.lemmas.Slice.Eq.{bytes_eq-Decides}
use Rattle.serde_json.specs.Data.{Data, put}
use Rattle.serde_json.specs.View.{view, members_view}
use Rattle.serde_json.specs.declared.value.Value.{Value}
use Rattle.serde_json.proofs.Views.{Entry, members_view-insert_entry}
use Rattle.picky_members.specs.Names.{Pair, is_among, members_without, pairs_view}

-- an entry that goes into a map
pub put_entry : (es now : List Entry) (k : String Global) (v : Value) (name : List ℕ) (d : Data) → now ≡ insert_entry string_cmp es k v → string_bytes k ≡ name → view v ≡ d
    → members_view now ≡ put name d (members_view es)
put_entry es now k v name d e f g = rw (e, members_view-insert_entry es k v, f, g) refl

-- no pair has the name
abbrev Lacks : List ℕ → List Pair → Type 0
Lacks name ps = AllByRecursion (λ (p : Pair). p.0 ≡ name → ⊥) ps

-- no two pairs have one name
abbrev Apart : List Pair → Type 0
Apart [] = Unit {0}
Apart (p ∷ ps) = Lacks p.0 ps × Apart ps

less_apart : (xs ys : List ℕ) → slice_cmp nat_cmp xs ys ≡ Less → ys ≡ xs → ⊥
less_apart xs ys less same =
    let tied : slice_cmp nat_cmp xs xs ≡ Equal = tied_itself nat_list_cmp_total xs in
    let also : slice_cmp nat_cmp xs ys ≡ Equal = subst (λ (zs : List ℕ). slice_cmp nat_cmp xs zs ≡ Equal) (sym same) tied in
    let clash : Less ≡ Equal = sym less ∙ also in
    cc

Lacks-cond : (b : Bool) (name : List ℕ) (p : Pair) (ps : List Pair) → (p.0 ≡ name → ⊥) → Lacks name ps → Lacks name (cond b ps (p ∷ ps))
Lacks-cond true name p ps h rest = rest
Lacks-cond false name p ps h rest = (h, rest)

Lacks-above : (names : List (List ℕ)) (k : String Global) (es : List Entry) → AllByRecursion (λ y. string_cmp k y ≡ Less) (keys_of es) → Lacks (string_bytes k) (members_without names (members_view es))
Lacks-above names k [] h = tt
Lacks-above names k (e ∷ es) h = Lacks-cond (is_among names (string_bytes e.0)) (string_bytes k) (string_bytes e.0, view e.1) _ (less_apart _ _ h.0) (Lacks-above names k es h.1)

Apart-cond : (b : Bool) (p : Pair) (ps : List Pair) → Lacks p.0 ps → Apart ps → Apart (cond b ps (p ∷ ps))
Apart-cond true p ps h rest = rest
Apart-cond false p ps h rest = (h, rest)

-- a map's names are apart
Apart-sorted : (names : List (List ℕ)) (es : List Entry) → IsStrictlySortedBy string_cmp (keys_of es) → Apart (members_without names (members_view es))
unfolding IsStrictlySortedBy
Apart-sorted names [] h = tt
Apart-sorted names (e ∷ es) h = Apart-cond (is_among names (string_bytes e.0)) (string_bytes e.0, view e.1) _ (Lacks-above names e.0 es h.0) (Apart-sorted names es h.1)

middle : (q : Pair) (front : List Pair) (p : Pair) (back : List Pair) → Lacks q.0 (front ++ p ∷ back) → p.0 ≡ q.0 → ⊥
middle q [] p back h = h.0
middle q (f ∷ front) p back h = middle q front p back h.1

differ : (xs ys : List ℕ) (b : Bool) → bytes_eq xs ys ≡ b → (xs ≡ ys → ⊥) → b ≡ false
differ xs ys true e other = absurd (other ((bytes_eq-Decides xs ys).0 e))
differ xs ys false e other = refl

new_name : (name : String Global) (es : List Entry) (p : Pair) (back : List Pair) → string_bytes name ≡ p.0 → Apart (pairs_view es ++ p ∷ back) → lookup (string_eq name) es ≡ None
new_name name [] p back is h = refl
new_name name (e ∷ es) p back is h =
    let apart : string_bytes name ≡ string_bytes e.0 → ⊥ = λ same. middle (string_bytes e.0, view e.1) (pairs_view es) p back h.0 (sym is ∙ same) in
    rw (differ (string_bytes name) (string_bytes e.0) _ refl apart) (new_name name es p back is h.1)

-- the next one, where its name is taken: it is new among those that were taken
pub next_is_new : (names : List (List ℕ)) (whole es : List Entry) (name : String Global) (p : Pair) (back : List Pair) → IsStrictlySortedBy string_cmp (keys_of whole)
    → pairs_view es ++ p ∷ back ≡ members_without names (members_view whole) → string_bytes name ≡ p.0 → lookup (string_eq name) es ≡ None
next_is_new names whole es name p back sorted same is = new_name name es p back is (subst Apart (sym same) (Apart-sorted names whole sorted))

-- and it goes last
pub next_taken : (es now : List Entry) (name : String Global) (v : Value) (p : Pair) (back whole : List Pair) → now ≡ es ++ (name, v) ∷ [] → string_bytes name ≡ p.0 → view v ≡ p.1
    → pairs_view es ++ p ∷ back ≡ whole → pairs_view now ++ back ≡ whole
next_taken es now name v p back whole e f g same = rw (e, map-append, f, g, append_assoc) same
