-- What is added in two turns.
use Rattle.std.proofs.Common.{◌≡◌, List, [], ◌++◌, Option, Some, None, sym, ◌∙◌, ap, subst, append_assoc}
use Rattle.std.proofs.lemmas.List.{append-nil}
use Rattle.picky_outside.specs.Outside.{Adds}

module _ {A : Type 0} where
  pub adds_nothing : (before now : Option (List A)) → now ≡ before → Adds before [] now
  adds_nothing None now same = tt
  adds_nothing (Some old) now same = same ∙ ap (λ (l : List A). Some l) (sym (append-nil old))

  pub adds_more : (before now later : Option (List A)) (a b : List A) → Adds before a now → Adds now b later → Adds before (a ++ b) later
  adds_more None now later a b first second = tt
  adds_more (Some old) now later a b first second =
      let told : Adds (Some (old ++ a)) b later = subst (λ (o : Option (List A)). Adds o b later) first second in
      told ∙ ap (λ (l : List A). Some l) (append_assoc old a b)
