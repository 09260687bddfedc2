-- `==` tells values of different meaning apart, and lists of one meaning stand for one list.
use Rattle.std.proofs.Common.{◌≡◌, ℕ, Bool, true, false, ◌&&◌, eqb, List, [], ◌∷◌, refl, sym, ap, ◌∙◌}
use Rattle.std.specs.Prelude.{◌↔◌, IsTrue, map, nat_eq}
use Rattle.std.specs.Cmp.{first_so, second_so}
use Rattle.std.specs.Cmp.Lexicographic.{pointwise, bytes_decides}
use Rattle.std.proofs.Math.Bool.{beq, and-true}
use Rattle.std.proofs.lemmas.Bool.{eqb-true, eq-eqb}

pub nat_equal : (x y : ℕ) → IsTrue (eqb x y) ↔ (x ≡ y)
nat_equal x y = (λ h. eqb-true x y h, λ e. eq-eqb x y e)

pub bool_equal : (x y : Bool) → IsTrue (beq x y) ↔ (x ≡ y)
bool_equal true true = (λ _. refl, λ _. refl)
bool_equal false false = (λ _. refl, λ _. refl)
bool_equal true false = (λ h. absurd cc, λ e. absurd cc)
bool_equal false true = (λ h. absurd cc, λ e. absurd cc)

-- bytes beside a mark that holds nothing
pub bytes_equal : (x y : List ℕ) → IsTrue (pointwise nat_eq x y && true) ↔ (x ≡ y)
bytes_equal x y =
    let bytes = bytes_decides x y in
    let alone : (pointwise nat_eq x y && true) ≡ pointwise nat_eq x y = and-true (pointwise nat_eq x y) in
    (λ h. bytes.0 (sym alone ∙ h), λ e. alone ∙ bytes.1 e)

-- bytes beside marks that hold nothing
pub strings_equal : (x y : List ℕ) → IsTrue ((pointwise nat_eq x y && true) && true) ↔ (x ≡ y)
strings_equal x y =
    let bytes = bytes_equal x y in
    let alone : ((pointwise nat_eq x y && true) && true) ≡ (pointwise nat_eq x y && true) = and-true (pointwise nat_eq x y && true) in
    (λ h. bytes.0 (sym alone ∙ h), λ e. alone ∙ bytes.1 e)

-- the empty list is the one default of lists
pub one_default_list : {X M : Type 0} (meaning : X → M) (xs ys : List X) → xs ≡ [] → ((ys ≡ []) ↔ (map meaning xs ≡ map meaning ys))
one_default_list meaning xs [] none = (λ _. rw none refl, λ _. refl)
one_default_list meaning xs (y ∷ ys) none = (λ e. absurd cc, λ e. absurd (let no : [] ≡ map meaning (y ∷ ys) = sym (ap (map meaning) none) ∙ e in cc))

heads : {M : Type 0} (a b : M) (xs ys : List M) → a ∷ xs ≡ b ∷ ys → a ≡ b
heads a b xs ys e = cc

tails : {M : Type 0} (a b : M) (xs ys : List M) → a ∷ xs ≡ b ∷ ys → xs ≡ ys
tails a b xs ys e = cc

-- where items that mean the same stand for the same value, lists do
pub lists_same_value : {X M A : Type 0} (meaning : X → M) (stands_for : X → A) → ((x y : X) → meaning x ≡ meaning y → stands_for x ≡ stands_for y) → (xs ys : List X) → map meaning xs ≡ map meaning ys → map stands_for xs ≡ map stands_for ys
lists_same_value meaning stands_for h [] [] e = refl
lists_same_value meaning stands_for h [] (y ∷ ys) e = absurd cc
lists_same_value meaning stands_for h (x ∷ xs) [] e = absurd cc
lists_same_value meaning stands_for h (x ∷ xs) (y ∷ ys) e =
    let one = h x y (heads (meaning x) (meaning y) (map meaning xs) (map meaning ys) e) in
    let rest = lists_same_value meaning stands_for h xs ys (tails (meaning x) (meaning y) (map meaning xs) (map meaning ys) e) in
    rw (one, rest) refl

-- where `==` tells the items' meanings apart, it tells those of the lists apart
pub lists_equal : {X M : Type 0} (eq : X → X → Bool) (meaning : X → M) → ((x y : X) → IsTrue (eq x y) ↔ (meaning x ≡ meaning y)) → (xs ys : List X) → IsTrue (pointwise eq xs ys) ↔ (map meaning xs ≡ map meaning ys)
lists_equal eq meaning h [] [] = (λ _. refl, λ _. refl)
lists_equal eq meaning h [] (y ∷ ys) = (λ e. absurd cc, λ e. absurd cc)
lists_equal eq meaning h (x ∷ xs) [] = (λ e. absurd cc, λ e. absurd cc)
lists_equal eq meaning h (x ∷ xs) (y ∷ ys) =
    let rest = lists_equal eq meaning h xs ys in
    let one = h x y in (
      λ e. rw (one.0 (first_so (eq x y) (pointwise eq xs ys) e), rest.0 (second_so (eq x y) (pointwise eq xs ys) e)) refl,
      λ e. rw (one.1 (heads (meaning x) (meaning y) (map meaning xs) (map meaning ys) e), rest.1 (tails (meaning x) (meaning y) (map meaning xs) (map meaning ys) e)) refl,
    )
