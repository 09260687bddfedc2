use Rattle.picky_http_text.specs.laws.Values.{clean_same}
use Rattle.picky_http_text.proofs.laws.clean_is_determined.Goals as goal

pub returns : goal.returns
returns c = clean_same
