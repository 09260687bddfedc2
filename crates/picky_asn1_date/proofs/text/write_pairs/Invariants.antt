use Rattle.std.proofs.Common.{◌≡◌, [], take}
use Rattle.picky_asn1_date.proofs.Places.{digits_onto}
use Rattle.picky_asn1_date.proofs.text.write_pairs.Given as goal

abbrev pub invariant-loop-number : goal.invariant-loop-number
invariant-loop-number l = l.text.items ≡ digits_onto (take l.number-index l.numbers) []
