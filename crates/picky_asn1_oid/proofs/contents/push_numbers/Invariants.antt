use Rattle.std.proofs.Common.{◌≡◌, ◌++◌, take}
use Rattle.std.specs.List.{flat_map}
use Rattle.picky_asn1_oid.specs.Arcs.{base128}
use Rattle.picky_asn1_oid.proofs.contents.push_numbers.Given as goal

abbrev pub invariant-loop-number : goal.invariant-loop-number
invariant-loop-number l = l.out.items ≡ l.initial.out.items ++ flat_map base128 (take l.number-index l.numbers)
