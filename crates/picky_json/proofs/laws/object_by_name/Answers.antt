use Rattle.serde_json.proofs.Views.{get_member-put, get_member-put_other}
use Rattle.picky_json.specs.Object.{members_of}
use Rattle.picky_json.proofs.laws.object_by_name.Goals as goal

pub returns-clause-here : goal.returns-clause-here
returns-clause-here c = λ k d ms. get_member-put k d (members_of ms)

pub returns-clause-other : goal.returns-clause-other
returns-clause-other c = λ q k d ms apart. get_member-put_other q k d (members_of ms) apart
