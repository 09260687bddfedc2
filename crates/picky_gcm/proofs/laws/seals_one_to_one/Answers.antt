use Rattle.picky_gcm.proofs.Sealing.{seal-alone}
use Rattle.picky_gcm.proofs.laws.seals_one_to_one.Goals as goal

pub returns : goal.returns
returns c = seal-alone
