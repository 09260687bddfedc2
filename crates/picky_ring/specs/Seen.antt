-- A key that is taken, without where it lies in memory (own).
use Rattle.picky_jwk_key.specs.Keys.{key_view}
use Rattle.picky_ring.specs.declared.jwks.TakenKey.{TakenKey}
use Rattle.picky_ring.specs.Taken.{Taken}

abbrev pub taken_view : TakenKey → Taken
taken_view t = record { name = t.name.now; key = key_view t.key.now; algorithm = t.algorithm }
