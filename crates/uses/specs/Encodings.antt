-- All the bytes as one value (X.690).
use Rattle.std.specs.Prelude.{ℕ, List}
use Rattle.picky_der.specs.Form.{Form}

-- all the bytes are a spelling of a value in form
abbrev pub IsSpelled : {X : Type 0} → Form X → List ℕ → X → Type 0
IsSpelled form bytes x = form.in_form x × form.Spells bytes x
