use Rattle.picky_jws_header.specs.laws.Once.{header_once}
use Rattle.picky_jws_header.proofs.laws.header_is_determined.Goals as goal

pub returns : goal.returns
returns c = header_once
