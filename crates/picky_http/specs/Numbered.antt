-- Which parts have the numbers that their lines say (draft-cavage-http-signatures-12, section 2.3).
use Rattle.std.specs.Prelude.{ℕ, Bool, true, List, Option, is_some}
use Rattle.std.specs.List.{list_all}
use Rattle.picky_http.specs.Signing.{Part, Named, Target, Created, Expires}

-- `(created)` and `(expires)` have their numbers; the other parts need none
abbrev pub has_number : Option ℕ → Option ℕ → Part → Bool
has_number created expires (Named name) = true
has_number created expires Target = true
has_number created expires Created = is_some created
has_number created expires Expires = is_some expires

-- each of the parts has its number
abbrev pub are_numbered : Option ℕ → Option ℕ → List Part → Bool
are_numbered created expires parts = list_all (has_number created expires) parts
