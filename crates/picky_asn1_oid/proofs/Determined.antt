-- Contents octets, and a text, are those of one identifier.
use Rattle.std.proofs.Common.{◌≡◌, ◌≢◌, ℕ, List, [], ◌∷◌, ◌++◌, get_or, drop, refl, sym, ap, ◌∙◌, subst, arith}
use Rattle.std.specs.Prelude.{All}
use Rattle.std.specs.List.{flat_map}
use Rattle.std.specs.Fmt.{decimal}
use Rattle.std.specs.Str.Parse.{digits_value}
use Rattle.std.proofs.lemmas.Fmt.{decimal_is_IsNumeral_wide}
use Rattle.std.proofs.lemmas.List.Elements.{All-head, All-tail}
use Rattle.picky_contract.specs.Text.{Lacks}
use Rattle.picky_asn1_oid.specs.Arcs.{FitsArc, IsArcs, base128, subidentifiers, contents_of, text_of}
use Rattle.picky_asn1_oid.specs.Numbers.{arcs_from}
use Rattle.picky_asn1_oid.proofs.Septets.{read, read_base128, only_read}
use Rattle.picky_asn1_oid.proofs.Sequences.{base128_some}
use Rattle.picky_asn1_oid.proofs.Dots.{decimal_dotless, dot_inside}
use Rattle.picky_asn1_oid.proofs.Arcs.{subidentifiers_fit, arcs_from-subidentifiers, arcs_fit}

-- no number in groups is in front of another
pub base128_prefix_free : (m n : ℕ) (s t : List ℕ) → FitsArc m → FitsArc n → base128 m ++ s ≡ base128 n ++ t → (m ≡ n) × (s ≡ t)
base128_prefix_free m n s t fits_m fits_n same =
    only_read (base128 n ++ t) m s (ap (λ (l : List ℕ). read 0 l) (sym same) ∙ read_base128 m s fits_m) n t fits_n refl

numbers_determined : (ms ns : List ℕ) → All FitsArc ms → All FitsArc ns → flat_map base128 ms ≡ flat_map base128 ns → ms ≡ ns
numbers_determined [] [] fit_m fit_n same = refl
numbers_determined [] (n ∷ ns) fit_m fit_n same = absurd (base128_some n (flat_map base128 ns) (sym same))
numbers_determined (m ∷ ms) [] fit_m fit_n same = absurd (base128_some m (flat_map base128 ms) same)
numbers_determined (m ∷ ms) (n ∷ ns) fit_m fit_n same =
    let parts = base128_prefix_free m n (flat_map base128 ms) (flat_map base128 ns) (All-head FitsArc m ms fit_m) (All-head FitsArc n ns fit_n) same in
    ap (λ (k : ℕ). k ∷ ms) parts.0
    ∙ ap (λ (l : List ℕ). n ∷ l) (numbers_determined ms ns (All-tail FitsArc m ms fit_m) (All-tail FitsArc n ns fit_n) parts.1)

-- two identifiers with the same contents octets are one
pub contents_determine_arcs : (arcs others : List ℕ) → IsArcs arcs → IsArcs others → contents_of arcs ≡ contents_of others → arcs ≡ others
contents_determine_arcs arcs others are_arcs are_others same =
    sym (arcs_from-subidentifiers arcs are_arcs)
    ∙ ap arcs_from (numbers_determined (subidentifiers arcs) (subidentifiers others) (subidentifiers_fit arcs are_arcs) (subidentifiers_fit others are_others) same)
    ∙ arcs_from-subidentifiers others are_others

decimal_determines : (m n : ℕ) → FitsArc m → FitsArc n → decimal m ≡ decimal n → m ≡ n
decimal_determines m n fits_m fits_n same =
    sym (decimal_is_IsNumeral_wide m (omega arith)).1
    ∙ ap (digits_value 10) same
    ∙ (decimal_is_IsNumeral_wide n (omega arith)).1

same_head : (x y : ℕ) (xs ys : List ℕ) → x ∷ xs ≡ y ∷ ys → x ≡ y
same_head x y xs ys same = ap (λ (l : List ℕ). get_or l 0 0) same

same_tail : (x y : ℕ) (xs ys : List ℕ) → x ∷ xs ≡ y ∷ ys → xs ≡ ys
same_tail x y xs ys same = ap (λ (l : List ℕ). drop 1 l) same

-- a text is cut at its first dot in one way
one_cut : (f g a b : List ℕ) → Lacks 46 f → Lacks 46 g → f ++ 46 ∷ a ≡ g ++ 46 ∷ b → (f ≡ g) × (a ≡ b)
one_cut [] [] a b lacks_f lacks_g same = (refl, same_tail 46 46 a b same)
one_cut [] (y ∷ ys) a b lacks_f lacks_g same = absurd (All-head (λ c. c ≢ 46) y ys lacks_g (sym (same_head 46 y a (ys ++ 46 ∷ b) same)))
one_cut (x ∷ xs) [] a b lacks_f lacks_g same = absurd (All-head (λ c. c ≢ 46) x xs lacks_f (same_head x 46 (xs ++ 46 ∷ a) b same))
one_cut (x ∷ xs) (y ∷ ys) a b lacks_f lacks_g same =
    let rest = one_cut xs ys a b (All-tail (λ c. c ≢ 46) x xs lacks_f) (All-tail (λ c. c ≢ 46) y ys lacks_g) (same_tail x y (xs ++ 46 ∷ a) (ys ++ 46 ∷ b) same) in
    (ap (λ (k : ℕ). k ∷ xs) (same_head x y (xs ++ 46 ∷ a) (ys ++ 46 ∷ b) same) ∙ ap (λ (l : List ℕ). y ∷ l) rest.0, rest.1)

no_dot : (n : ℕ) (front back : List ℕ) → FitsArc n → decimal n ≡ front ++ 46 ∷ back → ⊥
no_dot n front back fits same = let P : List ℕ → Type 0 = Lacks 46 in dot_inside front back (subst P same (decimal_dotless n fits))

numbers_of_text : (ms ns : List ℕ) → ms ≢ [] → ns ≢ [] → All FitsArc ms → All FitsArc ns → text_of ms ≡ text_of ns → ms ≡ ns
numbers_of_text [] ns some_m some_n fit_m fit_n same = absurd (some_m refl)
numbers_of_text (m ∷ ms) [] some_m some_n fit_m fit_n same = absurd (some_n refl)
numbers_of_text (m ∷ []) (n ∷ []) some_m some_n fit_m fit_n same =
    ap (λ (k : ℕ). k ∷ []) (decimal_determines m n (All-head FitsArc m [] fit_m) (All-head FitsArc n [] fit_n) same)
numbers_of_text (m ∷ []) (n ∷ k ∷ ns) some_m some_n fit_m fit_n same =
    absurd (no_dot m (decimal n) (text_of (k ∷ ns)) (All-head FitsArc m [] fit_m) same)
numbers_of_text (m ∷ k ∷ ms) (n ∷ []) some_m some_n fit_m fit_n same =
    absurd (no_dot n (decimal m) (text_of (k ∷ ms)) (All-head FitsArc n [] fit_n) (sym same))
numbers_of_text (m ∷ k ∷ ms) (n ∷ j ∷ ns) some_m some_n fit_m fit_n same =
    let fits_m = All-head FitsArc m (k ∷ ms) fit_m in
    let fits_n = All-head FitsArc n (j ∷ ns) fit_n in
    let parts = one_cut (decimal m) (decimal n) (text_of (k ∷ ms)) (text_of (j ∷ ns)) (decimal_dotless m fits_m) (decimal_dotless n fits_n) same in
    ap (λ (x : ℕ). x ∷ k ∷ ms) (decimal_determines m n fits_m fits_n parts.0)
    ∙ ap (λ (l : List ℕ). n ∷ l) (numbers_of_text (k ∷ ms) (j ∷ ns) (λ (h : (k ∷ ms) ≡ []). cc) (λ (h : (j ∷ ns) ≡ []). cc) (All-tail FitsArc m (k ∷ ms) fit_m) (All-tail FitsArc n (j ∷ ns) fit_n) parts.1)

arcs_some : (arcs : List ℕ) → IsArcs arcs → arcs ≢ []
arcs_some [] are_arcs = λ h. are_arcs
arcs_some (a ∷ others) are_arcs = λ (h : (a ∷ others) ≡ []). cc

-- two identifiers with the same text are one
pub text_determines_arcs : (arcs others : List ℕ) → IsArcs arcs → IsArcs others → text_of arcs ≡ text_of others → arcs ≡ others
text_determines_arcs arcs others are_arcs are_others same =
    numbers_of_text arcs others (arcs_some arcs are_arcs) (arcs_some others are_others) (arcs_fit arcs are_arcs) (arcs_fit others are_others) same
