use Rattle.picky_asn1_wrapper.specs.laws.Lists.{list_formed}
use Rattle.picky_asn1_wrapper.proofs.laws.written_wrappers_are_in_form.Goals as goal

pub returns-clause-sequence : goal.returns-clause-sequence
returns-clause-sequence g c formed = list_formed g.T.DerForm.form formed (record { 0 = 48 })

pub returns-clause-set : goal.returns-clause-set
returns-clause-set g c formed = list_formed g.T.DerForm.form formed (record { 0 = 49 })
