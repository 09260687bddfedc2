use Rattle.picky_jose.specs.laws.Readings.{one_reading}
use Rattle.picky_jose.proofs.laws.reading_is_determined.Goals as goal

pub returns : goal.returns
returns c = λ text x y. one_reading x y text
