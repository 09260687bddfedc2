use Rattle.picky_key_der.specs.laws.Back.{written_is_key}
use Rattle.picky_key_der.proofs.laws.written_keys_are_read.Goals as goal

pub returns : goal.returns
returns c = written_is_key
