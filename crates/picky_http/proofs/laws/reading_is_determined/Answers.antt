use Rattle.picky_http.specs.laws.Readings.{reading_same}
use Rattle.picky_http.proofs.laws.reading_is_determined.Goals as goal

pub returns : goal.returns
returns c = reading_same
