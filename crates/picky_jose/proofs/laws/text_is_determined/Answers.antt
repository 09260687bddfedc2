use Rattle.picky_jose.specs.laws.Readings.{one_text}
use Rattle.picky_jose.proofs.laws.text_is_determined.Goals as goal

pub returns : goal.returns
returns c = λ x y s t r q. one_text x y s t r q
