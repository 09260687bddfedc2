use Rattle.picky_asn1_bits.proofs.Shortest.{IsBytes-All, IsShortest-fewest, IsShortest-one}
use Rattle.picky_asn1_bits.proofs.laws.shortest_integers_are_unique.Goals as goal

pub returns-clause-one : goal.returns-clause-one
returns-clause-one c s t small others = IsShortest-one s t (IsBytes-All s small) (IsBytes-All t others)

pub returns-clause-fewest : goal.returns-clause-fewest
returns-clause-fewest c s t small others = IsShortest-fewest s t (IsBytes-All s small) (IsBytes-All t others)
