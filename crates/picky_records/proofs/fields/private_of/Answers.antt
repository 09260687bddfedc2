use Rattle.std.proofs.Common.{inr, refl}
use Rattle.picky_records.specs.Reading.{private_field}
use Rattle.picky_records.proofs.fields.private_of.Goals as goal

pub returns-in-Some : goal.returns-in-Some
unfolding private_field
returns-in-Some c =
    let found = rw (c.in-Some.is, c.as_slice.ensures) at c.in_ok-key.ensures in
    (c.in_ok-bytes.bytes, c.in_ok-bytes.ensures, found)

pub returns : goal.returns
unfolding private_field
returns c =
    let none = rw (c.in-None.is, c.as_slice.ensures) at c.in_ok-key.ensures in
    inr (c.in_ok-bytes.bytes, c.in_ok-bytes.ensures, (refl, none))
