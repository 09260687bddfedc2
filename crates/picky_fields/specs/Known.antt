-- What stands behind an identifier that is known by its contents octets (X.690 section 8.19).
use Rattle.std.specs.Prelude.{List, ℕ, ◌⊎◌}
use Rattle.picky_fields.specs.Fields.{Fields}
use Rattle.picky_fields.specs.Choice.{Cases, case, has_contents}

-- after the identifier with these arcs, of which these are the contents octets, a run of one kind, after others what `rest` says
abbrev pub known : {X Z : Type 0} → List ℕ → List ℕ → Fields X → Cases (List ℕ) Z → Cases (List ℕ) (X ⊎ Z)
known arcs octets f rest = case arcs (has_contents octets) f rest
