use Rattle.picky_http.specs.laws.Lines.{signing_string_same}
use Rattle.picky_http.proofs.laws.lines_are_determined.Goals as goal

pub returns : goal.returns
returns c = signing_string_same
