use Rattle.std.proofs.Common.{ℕ, List, Option, Some, option_map, string_bytes, ap, sym, subst, ◌∙◌}
use Rattle.picky_contract.specs.Refusals.{Finds}
use Rattle.picky_gate.specs.Admissible.{IsKeyUnder}
use Rattle.picky_gate.specs.Seen.{key_view}
use Rattle.picky_gate.proofs.token.key_under.Goals as goal

pub returns-in-Some : goal.returns-in-Some
returns-in-Some c =
    subst (λ (n : Option (List ℕ)). Finds key_view (IsKeyUnder c.args.ring.now n) c.key_named.result)
    (ap (λ (t : List ℕ). Some t) c.as_str.ensures.value ∙ ap (option_map string_bytes) (sym c.in-Some.is)) c.key_named.ensures
