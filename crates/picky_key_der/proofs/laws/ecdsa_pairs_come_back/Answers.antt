use Rattle.picky_key_der.specs.laws.Ecdsa.{pairs_come_back}
use Rattle.picky_key_der.proofs.laws.ecdsa_pairs_come_back.Goals as goal

pub returns : goal.returns
returns c = pairs_come_back
