-- Steps of a table beside those of `picky_contract` (own).
use Rattle.std.specs.Prelude.{◌≡◌, Result, Ok, Err}
use Rattle.picky_contract.specs.Refusals.{Table, done}

-- the one value of which P holds, which there always is
abbrev pub always : {X F : Type 0} → (X → Type 0) → Table X F
always {X = X} P = record {
  holds = P;
  gives = λ x. P x × ((y : X) → P y → y ≡ x);
  refuses = λ _. ⊥;
}

-- what a definition that computes says: a value, or a refusal
abbrev pub given : {X F : Type 0} → Result X F → Table X F
given (Ok x) = done x
given (Err f) = record { holds = λ _. ⊥; gives = λ _. ⊥; refuses = λ g. g ≡ f }
