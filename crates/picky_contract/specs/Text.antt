-- Cuts of a text: which concatenation a text is (own).
use Rattle.std.specs.Prelude.{◌≡◌, ◌≢◌, ℕ, List, ◌∷◌, ◌++◌, All}

-- the text holds no such byte
abbrev pub Lacks : ℕ → List ℕ → Type 0
Lacks c text = All (λ b. b ≢ c) text

-- the text is front, c and back, with c nowhere in front
pub record IsCutAtFirst (c : ℕ) (text front back : List ℕ) : Type 0 where
  pub joined : text ≡ front ++ c ∷ back
  pub lacks : Lacks c front

-- the text is front, c and back, with c nowhere in back
pub record IsCutAtLast (c : ℕ) (text front back : List ℕ) : Type 0 where
  pub joined : text ≡ front ++ c ∷ back
  pub lacks : Lacks c back
