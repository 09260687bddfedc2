use Rattle.picky_modes.proofs.Determined.{IsCbc-one}
use Rattle.picky_modes.proofs.laws.cbc_encrypts_to_one.Goals as goal

pub returns : goal.returns
returns c = IsCbc-one
