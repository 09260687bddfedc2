use Rattle.picky_base64.specs.laws.Encoding.{once}
use Rattle.picky_base64.proofs.laws.bytes_are_determined.Goals as goal

pub returns : goal.returns
returns c = once
