use Rattle.std.proofs.Common.{rules, tests}
use Rattle.std.proofs.lemmas.Iterator.{YieldsList-from_slice}
use Rattle.std.proofs.lemmas.Iterator.Search.{find_from_yields_List}
use Rattle.picky_jwk.specs.Views.{jwk_view}
use Rattle.uses.specs.KeySets.{has_name}
use Rattle.uses.proofs.key_sets.first_named.Goals as goal

pub returns : goal.returns
returns c = find_from_yields_List (λ k. has_name c.args.name.now (jwk_view k)) _ _ _ c.find.ensures.ran (YieldsList-from_slice c.args.keys.now cc) (λ x b q k. search (rules, tests))
