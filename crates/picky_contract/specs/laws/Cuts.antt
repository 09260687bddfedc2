-- A text has one cut at its first, or last, such byte.
use Rattle.std.proofs.Common.{◌≡◌, ◌≢◌, ℕ, List, [], ◌∷◌, ◌++◌, refl, subst}
use Rattle.std.proofs.lemmas.List.Elements.{All-head, All-tail}
use Rattle.picky_contract.specs.Text.{Lacks}

-- a text that lacks a byte has it nowhere inside
pub lacks-inside : (c : ℕ) (front back : List ℕ) → Lacks c (front ++ c ∷ back) → ⊥
lacks-inside c [] back h = All-head (λ b. b ≢ c) c back h refl
lacks-inside c (x ∷ front) back h = lacks-inside c front back (All-tail (λ b. b ≢ c) x (front ++ c ∷ back) h)

-- two cuts at the first such byte are one
pub first-once : (c : ℕ) (a x b y : List ℕ) → a ++ c ∷ x ≡ b ++ c ∷ y → Lacks c a → Lacks c b → (a ≡ b) × (x ≡ y)
first-once c [] x [] y e ha hb = (refl, cc)
first-once c [] x (d ∷ b) y e ha hb = let head : d ≡ c = cc in absurd (All-head (λ z. z ≢ c) d b hb head)
first-once c (d ∷ a) x [] y e ha hb = let head : d ≡ c = cc in absurd (All-head (λ z. z ≢ c) d a ha head)
first-once c (d ∷ a) x (f ∷ b) y e ha hb =
    let t : a ++ c ∷ x ≡ b ++ c ∷ y = cc in
    let p = first-once c a x b y t (All-tail (λ z. z ≢ c) d a ha) (All-tail (λ z. z ≢ c) f b hb) in
    let head : d ≡ f = cc in
    (cc (p.0), p.1)

-- two cuts at the last such byte are one
pub last-once : (c : ℕ) (a x b y : List ℕ) → a ++ c ∷ x ≡ b ++ c ∷ y → Lacks c x → Lacks c y → (a ≡ b) × (x ≡ y)
last-once c [] x [] y e hx hy = (refl, cc)
last-once c [] x (d ∷ b) y e hx hy = let t : x ≡ b ++ c ∷ y = cc in absurd (lacks-inside c b y (subst (Lacks c) t hx))
last-once c (d ∷ a) x [] y e hx hy = let t : y ≡ a ++ c ∷ x = cc in absurd (lacks-inside c a x (subst (Lacks c) t hy))
last-once c (d ∷ a) x (f ∷ b) y e hx hy =
    let t : a ++ c ∷ x ≡ b ++ c ∷ y = cc in
    let p = last-once c a x b y t hx hy in
    let head : d ≡ f = cc in
    (cc (p.0), p.1)
