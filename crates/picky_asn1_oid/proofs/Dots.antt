-- Numbers in decimal joined by dots.
use Rattle.std.proofs.Common.{◌≡◌, ◌≢◌, ℕ, ◌-◌, ◌<◌, ◌≤◌, List, [], ◌∷◌, ◌++◌, length, get_or, take, drop, Result, Ok, Err, refl, sym, ap, ◌∙◌, arith, append_assoc, subst}
use Rattle.std.specs.Char.{digit_value}
use Rattle.std.specs.Prelude.{All}
use Rattle.std.specs.List.{flat_map}
use Rattle.std.specs.Fmt.{decimal}
use Rattle.std.specs.Str.Parse.{AllDigits}
use Rattle.std.proofs.lemmas.Fmt.{decimal_is_IsNumeral_wide}
use Rattle.std.proofs.lemmas.List.Elements.{All-nil, All-cons, All-head, All-tail, All-push}
use Rattle.std.proofs.lemmas.Grind.{common_steps}
use Rattle.picky_contract.specs.Text.{Lacks, IsCutAtFirst}
use Rattle.picky_asn1_oid.specs.Arcs.{FitsArc, text_of}
use Rattle.picky_asn1_oid.specs.Dotted.{IsDecimalOf, AreDottedOf, dotted}

-- ---- the text by its first number

pub text_of-cons : (x : ℕ) (xs : List ℕ) → text_of (x ∷ xs) ≡ decimal x ++ flat_map dotted xs
text_of-cons x [] = grind (arith, common_steps)
text_of-cons x (y ∷ ys) = ap (λ (l : List ℕ). decimal x ++ 46 ∷ l) (text_of-cons y ys)

-- ---- no digit is a dot

dotless : (ds : List ℕ) → AllDigits 10 ds → Lacks 46 ds
dotless [] all = All-nil (λ b. b ≢ 46)
dotless (d ∷ ds) all =
    All-cons (λ b. b ≢ 46) d ds (λ (dot : d ≡ 46). absurd (not_a_digit d dot all.0)) (dotless ds all.1)
  where
    not_a_digit : (d : ℕ) → d ≡ 46 → digit_value d < 10 → ⊥
    not_a_digit d dot low = let at_dot : digit_value 46 < 10 = (rw dot at low) in absurd (omega (arith, at_dot))

pub decimal_dotless : (n : ℕ) → FitsArc n → Lacks 46 (decimal n)
decimal_dotless n fits = dotless (decimal n) (decimal_is_IsNumeral_wide n (omega arith)).0.1

pub dot_inside : (front back : List ℕ) → Lacks 46 (front ++ 46 ∷ back) → ⊥
dot_inside [] back lacks = All-head (λ b. b ≢ 46) 46 back lacks refl
dot_inside (b ∷ bs) back lacks = dot_inside bs back (All-tail (λ b. b ≢ 46) b (bs ++ 46 ∷ back) lacks)

-- ---- taking numbers from the front

-- these numbers have been taken from the front of the text; any numbers of which it is the text begin with these
pub record HasTakenText (text numbers rest : List ℕ) : Type 0 where
  pub fit : All FitsArc numbers
  pub stand : (others : List ℕ) → others ≢ [] → text_of others ≡ rest → text_of (numbers ++ others) ≡ text
  pub only : (all : List ℕ) → AreDottedOf text all → (others : List ℕ) × (all ≡ numbers ++ others) × AreDottedOf rest others

pub HasTakenText-none : (text : List ℕ) → HasTakenText text [] text
HasTakenText-none text = record { fit = All-nil FitsArc; stand = λ others some e. e; only = λ all a. (all, refl, a) }

-- what follows a first number: nothing and no dot, or a dot and further numbers
module _ (rest front back : List ℕ) (cut : IsCutAtFirst 46 rest front back) (one : (f b : List ℕ) → IsCutAtFirst 46 rest f b → (front ≡ f) × (back ≡ b)) where
  alone : (m : ℕ) → FitsArc m → decimal m ≡ rest → ⊥
  alone m fits is = dot_inside front back (subst_lacks (is ∙ cut.joined) (decimal_dotless m fits))
    where
      subst_lacks : {s t : List ℕ} → s ≡ t → Lacks 46 s → Lacks 46 t
      subst_lacks e lacks = let P : List ℕ → Type 0 = Lacks 46 in subst P e lacks

  followed : (m k : ℕ) (ks : List ℕ) → FitsArc m → text_of (m ∷ k ∷ ks) ≡ rest → (front ≡ decimal m) × (back ≡ text_of (k ∷ ks))
  followed m k ks fits is = one (decimal m) (text_of (k ∷ ks)) (record { joined = sym is; lacks = decimal_dotless m fits })

  -- one more number is taken
  pub HasTakenText-more : (text numbers : List ℕ) (n : ℕ) → HasTakenText text numbers rest → IsDecimalOf front n → ((y : ℕ) → IsDecimalOf front y → y ≡ n) → HasTakenText text (numbers ++ n ∷ []) back
  HasTakenText-more text numbers n taken is only = record {
    fit = All-push FitsArc numbers n taken.fit is.0;
    stand = λ others some e.
        ap text_of (append_assoc numbers (n ∷ []) others)
        ∙ taken.stand (n ∷ others) (λ (h : (n ∷ others) ≡ []). cc) (before others some e);
    only = λ all a. let t = taken.only all a in next all t.0 t.1 t.2;
  }
    where
      before : (others : List ℕ) → others ≢ [] → text_of others ≡ back → text_of (n ∷ others) ≡ rest
      before [] some e = absurd (some refl)
      before (o ∷ os) some e =
          ap (λ (l : List ℕ). decimal n ++ 46 ∷ l) e ∙ ap (λ (l : List ℕ). l ++ 46 ∷ back) is.1 ∙ sym cut.joined

      next : (all others : List ℕ) → all ≡ numbers ++ others → AreDottedOf rest others → (later : List ℕ) × (all ≡ (numbers ++ n ∷ []) ++ later) × AreDottedOf back later
      next all [] all_is are = absurd (are.0 refl)
      next all (m ∷ []) all_is are = absurd (alone m (All-head FitsArc m [] are.1) are.2)
      next all (m ∷ k ∷ ks) all_is are =
          let f = followed m k ks (All-head FitsArc m (k ∷ ks) are.1) are.2 in
          let same : m ≡ n = only m (All-head FitsArc m (k ∷ ks) are.1, sym f.0) in (
            k ∷ ks,
            all_is ∙ ap (λ (x : ℕ). numbers ++ x ∷ k ∷ ks) same ∙ sym (append_assoc numbers (n ∷ []) (k ∷ ks)),
            ((λ (h : (k ∷ ks) ≡ []). cc), All-tail FitsArc m (k ∷ ks) are.1, sym f.1),
          )

  -- where what stands before the dot is no number, the text is that of none
  pub HasTakenText-stuck : (text numbers : List ℕ) → HasTakenText text numbers rest → ((y : ℕ) → IsDecimalOf front y → ⊥) → (all : List ℕ) → AreDottedOf text all → ⊥
  HasTakenText-stuck text numbers taken none all a = let t = taken.only all a in next t.0 t.2
    where
      next : (others : List ℕ) → AreDottedOf rest others → ⊥
      next [] are = are.0 refl
      next (m ∷ []) are = alone m (All-head FitsArc m [] are.1) are.2
      next (m ∷ k ∷ ks) are = let f = followed m k ks (All-head FitsArc m (k ∷ ks) are.1) are.2 in none m (All-head FitsArc m (k ∷ ks) are.1, sym f.0)

-- where no dot is left
module _ (rest : List ℕ) (uncut : (f b : List ℕ) → IsCutAtFirst 46 rest f b → ⊥) where
  a_dot : (m k : ℕ) (ks : List ℕ) → FitsArc m → text_of (m ∷ k ∷ ks) ≡ rest → ⊥
  a_dot m k ks fits is = uncut (decimal m) (text_of (k ∷ ks)) (record { joined = sym is; lacks = decimal_dotless m fits })

  pub HasTakenText-all : (text numbers : List ℕ) (n : ℕ) → HasTakenText text numbers rest → IsDecimalOf rest n → ((y : ℕ) → IsDecimalOf rest y → y ≡ n) → AreDottedOf text (numbers ++ n ∷ []) × ((all : List ℕ) → AreDottedOf text all → all ≡ numbers ++ n ∷ [])
  HasTakenText-all text numbers n taken is only = (
    (ends_not numbers, All-push FitsArc numbers n taken.fit is.0, taken.stand (n ∷ []) (λ (h : (n ∷ []) ≡ []). cc) is.1),
    (λ all a. let t = taken.only all a in next all t.0 t.1 t.2),
  )
    where
      ends_not : (xs : List ℕ) → (xs ++ n ∷ []) ≢ []
      ends_not [] = λ (h : (n ∷ []) ≡ []). cc
      ends_not (x ∷ xs) = λ (h : (x ∷ (xs ++ n ∷ [])) ≡ []). cc

      next : (all others : List ℕ) → all ≡ numbers ++ others → AreDottedOf rest others → all ≡ numbers ++ n ∷ []
      next all [] all_is are = absurd (are.0 refl)
      next all (m ∷ []) all_is are = all_is ∙ ap (λ (x : ℕ). numbers ++ x ∷ []) (only m (All-head FitsArc m [] are.1, are.2))
      next all (m ∷ k ∷ ks) all_is are = absurd (a_dot m k ks (All-head FitsArc m (k ∷ ks) are.1) are.2)

  pub HasTakenText-unread : (text numbers : List ℕ) → HasTakenText text numbers rest → ((y : ℕ) → IsDecimalOf rest y → ⊥) → (all : List ℕ) → AreDottedOf text all → ⊥
  HasTakenText-unread text numbers taken none all a = let t = taken.only all a in next t.0 t.2
    where
      next : (others : List ℕ) → AreDottedOf rest others → ⊥
      next [] are = are.0 refl
      next (m ∷ []) are = none m (All-head FitsArc m [] are.1, are.2)
      next (m ∷ k ∷ ks) are = a_dot m k ks (All-head FitsArc m (k ∷ ks) are.1) are.2

-- the rest after a cut is shorter
pub cut_shorter : (rest front back : List ℕ) → IsCutAtFirst 46 rest front back → length back < length rest
cut_shorter rest front back cut = grind (arith, common_steps, ap length cut.joined)

-- the text of numbers that begin with one
pub text_of-first : (numbers : List ℕ) → 1 ≤ length numbers → text_of numbers ≡ decimal (get_or numbers 0 0) ++ flat_map dotted (take (length numbers - 1) (drop 1 numbers))
text_of-first [] some = absurd (omega arith)
text_of-first (x ∷ xs) some = text_of-cons x xs ∙ ap (λ (l : List ℕ). decimal x ++ flat_map dotted l) (whole xs)
  where
    whole : (l : List ℕ) → l ≡ take (length (x ∷ l) - 1) l
    whole l = grind (arith, common_steps)

-- one result has one value
pub same_ok : {E : Type 0} (r : Result ℕ E) (m n : ℕ) → r ≡ Ok m → r ≡ Ok n → m ≡ n
same_ok r m n is_m is_n = ap value_of (sym is_m ∙ is_n)
  where
    value_of : {E : Type 0} → Result ℕ E → ℕ
    value_of (Ok n) = n
    value_of (Err e) = 0
