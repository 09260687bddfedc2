use Rattle.picky_jwk_key.specs.laws.Back.{keys_come_back}
use Rattle.picky_jwk_key.proofs.laws.public_keys_come_back.Goals as goal

pub returns : goal.returns
returns c = keys_come_back
