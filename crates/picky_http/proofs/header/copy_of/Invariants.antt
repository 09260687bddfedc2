use Rattle.std.proofs.Common.{◌≡◌, map, take}
use Rattle.picky_http.specs.Parts.{part_of}
use Rattle.picky_http.proofs.header.copy_of.Given as goal

abbrev pub invariant-loop-header : goal.invariant-loop-header
invariant-loop-header l = map part_of l.copies.items ≡ map part_of (take l.header-index l.headers)
