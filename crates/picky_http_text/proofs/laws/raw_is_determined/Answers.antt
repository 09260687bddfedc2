use Rattle.picky_http_text.specs.laws.Values.{raw_same}
use Rattle.picky_http_text.proofs.laws.raw_is_determined.Goals as goal

pub returns : goal.returns
returns c = raw_same
