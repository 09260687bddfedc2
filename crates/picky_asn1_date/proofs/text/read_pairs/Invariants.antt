use Rattle.std.proofs.Common.{◌≡◌, ◌<◌, length, take, All}
use Rattle.picky_asn1_date.proofs.Places.{digits_onto}
use Rattle.picky_asn1_date.proofs.text.read_pairs.Given as goal

abbrev pub invariant-loop-number : goal.invariant-loop-number
invariant-loop-number g l = (length l.number-items ≡ g.row.N) × ((l.bytes ≡ digits_onto (take l.number-index l.number-items) l.left) × All (λ n. n < 100) (take l.number-index l.number-items))
