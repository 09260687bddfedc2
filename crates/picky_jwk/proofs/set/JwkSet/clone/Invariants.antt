use Rattle.std.proofs.Common.{◌≡◌, take, map}
use Rattle.picky_jwk.specs.Views.{jwk_view}
use Rattle.picky_jwk.proofs.set.JwkSet.clone.Given as goal

-- the copies so far are those of the keys so far
abbrev pub invariant-loop-key : goal.invariant-loop-key
invariant-loop-key l = map jwk_view l.copies.items ≡ map jwk_view (take l.key-index l.key-items)
