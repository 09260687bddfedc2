use Rattle.picky_http.specs.laws.Told.{told_back}
use Rattle.picky_http.proofs.laws.printed_is_told.Goals as goal

pub returns : goal.returns
returns c = told_back
