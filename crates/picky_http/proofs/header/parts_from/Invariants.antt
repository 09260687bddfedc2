use Rattle.std.proofs.Common.{◌≡◌, map}
use Rattle.picky_http.specs.Parts.{part_of, part_named}
use Rattle.picky_http.proofs.header.parts_from.Given as goal

abbrev pub invariant-loop-piece : goal.invariant-loop-piece
invariant-loop-piece l = map part_of l.headers.items ≡ map part_named (map (λ p. p.now) l.yielded)
