use Rattle.picky_asn1_wrapper.specs.laws.Equal.{lists_equal}
use Rattle.picky_asn1_wrapper.proofs.laws.equal_sequences_mean_the_same.Goals as goal

pub returns : goal.returns
returns g c =
    lists_equal g.T.PartialEq.eq g.T.Asn1Value.meaning g.met.T.EqualMeaning.equal_meaning c.args.list.now c.args.other.now
