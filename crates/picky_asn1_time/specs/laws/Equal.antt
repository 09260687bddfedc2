-- `==` tells dates of different numbers apart.
use Rattle.std.proofs.Common.{◌≡◌, Bool, true, ◌&&◌, refl, sym, subst, ◌∙◌}
use Rattle.std.specs.Prelude.{◌↔◌, IsTrue, nat_eq}
use Rattle.std.proofs.Math.Bool.{and-true}
use Rattle.std.proofs.lemmas.Bool.Decides.{Decides-and, Decides-eqb}
use Rattle.std.specs.Bool.{Decides}
use Rattle.picky_asn1_date.specs.Moment.{Moment}

-- the six numbers of two dates are the same
abbrev AreSame : Moment → Moment → Type 0
AreSame x y = (x.year ≡ y.year) × ((x.month ≡ y.month) × ((x.day ≡ y.day) × ((x.hour ≡ y.hour) × ((x.minute ≡ y.minute) × (x.second ≡ y.second)))))

-- `==` of dates: their numbers in order, and a mark that holds nothing
abbrev same_numbers : Moment → Moment → Bool
same_numbers x y = nat_eq x.year y.year && (nat_eq x.month y.month && (nat_eq x.day y.day && (nat_eq x.hour y.hour && (nat_eq x.minute y.minute && (nat_eq x.second y.second && true)))))

same_moment : (x y : Moment) → AreSame x y → x ≡ y
same_moment x y e = rw (e.0, e.1.0, e.1.1.0, e.1.1.1.0, e.1.1.1.1.0, e.1.1.1.1.1) refl

numbers_decide : (x y : Moment) → Decides (same_numbers x y) (AreSame x y)
numbers_decide x y =
    let last : Decides (nat_eq x.second y.second && true) (x.second ≡ y.second) = subst (λ (b : Bool). Decides b (x.second ≡ y.second)) (sym (and-true (nat_eq x.second y.second))) (Decides-eqb x.second y.second) in
    Decides-and _ _ (Decides-eqb x.year y.year) (Decides-and _ _ (Decides-eqb x.month y.month) (Decides-and _ _ (Decides-eqb x.day y.day) (Decides-and _ _ (Decides-eqb x.hour y.hour) (Decides-and _ _ (Decides-eqb x.minute y.minute) last))))

pub numbers_equal : (x y : Moment) → IsTrue (same_numbers x y) ↔ (x ≡ y)
numbers_equal x y =
    let numbers = numbers_decide x y in
    (λ h. same_moment x y (numbers.0 h), λ e. numbers.1 (rw e (refl, (refl, (refl, (refl, (refl, refl)))))))

-- dates beside a mark that holds nothing
pub dates_equal : (x y : Moment) → IsTrue (same_numbers x y && true) ↔ (x ≡ y)
dates_equal x y =
    let alone : (same_numbers x y && true) ≡ same_numbers x y = and-true (same_numbers x y) in
    let numbers = numbers_equal x y in
    (λ h. numbers.0 (sym alone ∙ h), λ e. alone ∙ numbers.1 e)
