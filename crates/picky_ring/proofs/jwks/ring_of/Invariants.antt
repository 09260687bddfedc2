use Rattle.std.proofs.Common.{drop, map}
use Rattle.picky_contract.specs.laws.Tables.{Leads}
use Rattle.picky_jwk.specs.Views.{jwk_view}
use Rattle.picky_ring.specs.Refusals.{ring_table}
use Rattle.picky_ring.proofs.Keys.{left_table}
use Rattle.picky_ring.proofs.jwks.ring_of.Given as goal

abbrev pub invariant-loop-jwk : goal.invariant-loop-jwk
invariant-loop-jwk l = Leads (left_table l.ring (drop l.jwk-index l.jwk-items)) (ring_table (map jwk_view l.keys.items))
