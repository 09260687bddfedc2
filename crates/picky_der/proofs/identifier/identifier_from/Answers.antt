use Rattle.picky_asn1_oid.specs.Fault.{contents_table}
use Rattle.picky_der.specs.laws.Identifier.{identifier_ok, identifier_bad}
use Rattle.picky_der.proofs.identifier.identifier_from.Goals as goal

pub returns-in-Ok : goal.returns-in-Ok
returns-in-Ok c = identifier_ok c.args.octets.now c.in-Ok.identifier c.in-Ok.ensures.found

pub returns-in-Err-BadText : goal.returns-in-Err-BadText
unfolding contents_table
returns-in-Err-BadText c =
    let refused = rw c.in-Err-BadText.field-0-is at c.in-Err-BadText.ensures.first in
    identifier_bad c.args.octets.now refused.1

pub returns-in-Err-BadContents : goal.returns-in-Err-BadContents
unfolding contents_table
returns-in-Err-BadContents c =
    let refused = rw c.in-Err-BadContents.field-0-is at c.in-Err-BadContents.ensures.first in
    identifier_bad c.args.octets.now refused.1
