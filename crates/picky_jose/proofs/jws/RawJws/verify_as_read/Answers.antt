use Rattle.picky_jose.specs.Refusals.{reading_of}
use Rattle.picky_jose.specs.Views.{text_of}
use Rattle.picky_jose.specs.laws.Vouching.{ends_with}
use Rattle.picky_jose.proofs.jws.RawJws.verify_as_read.Goals as goal

pub check_decoded-requires : goal.check_decoded-requires
check_decoded-requires g c = rw (c.as_str.ensures.value, c.deref.ensures.value) (ends_with (reading_of c.args.self) (text_of c.args.self) c.requires)

pub returns-clause-first : goal.returns-clause-first
returns-clause-first g c = rw c.as_str.ensures.value at c.in_ok-check_decoded.ensures
