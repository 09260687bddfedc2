use Rattle.picky_asn1_wrapper.specs.laws.Lists.{list_nests}
use Rattle.picky_asn1_wrapper.proofs.laws.wrappers_nest_one_reader_more.Goals as goal

pub returns-clause-sequence : goal.returns-clause-sequence
returns-clause-sequence g c most inner = list_nests g.T.DerForm.form most inner (record { 0 = 48 })

pub returns-clause-set : goal.returns-clause-set
returns-clause-set g c most inner = list_nests g.T.DerForm.form most inner (record { 0 = 49 })
