-- A text writes one number.
use Rattle.std.proofs.Common.{◌≡◌, ◌⊎◌, ℕ, List, ◌∷◌, inl, inr, sym, ap, subst, ◌∙◌, arith}
use Rattle.std.specs.Str.Parse.{IsNumeral, digits_value}
use Rattle.picky_http_text.specs.Numbers.{IsNumber}

no_plus_digit : (digits : List ℕ) → IsNumeral 10 (43 ∷ digits) → ⊥
no_plus_digit digits h = omega (arith, h.1.0)

digits_same : (text a b : List ℕ) → (text ≡ a) ⊎ (text ≡ 43 ∷ a) → (text ≡ b) ⊎ (text ≡ 43 ∷ b) → IsNumeral 10 a → IsNumeral 10 b → a ≡ b
digits_same text a b (inl e) (inl f) h k = sym e ∙ f
digits_same text a b (inl e) (inr f) h k = absurd (no_plus_digit b (subst (IsNumeral 10) (sym e ∙ f) h))
digits_same text a b (inr e) (inl f) h k = absurd (no_plus_digit a (subst (IsNumeral 10) (sym f ∙ e) k))
digits_same text a b (inr e) (inr f) h k = let same : 43 ∷ a ≡ 43 ∷ b = sym e ∙ f in cc

pub number_same : (text : List ℕ) (n m : ℕ) → IsNumber text n → IsNumber text m → n ≡ m
number_same text n m x y = sym x.value ∙ ap (digits_value 10) (digits_same text x.digits y.digits x.written y.written x.numeral y.numeral) ∙ y.value
