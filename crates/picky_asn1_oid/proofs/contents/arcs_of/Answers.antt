use Rattle.std.proofs.Common.{◌∙◌}
use Rattle.picky_asn1_oid.proofs.Arcs.{arcs_read, arcs_written, got_first}
use Rattle.picky_asn1_oid.proofs.contents.arcs_of.Goals as goal

pub returns : goal.returns
returns c =
    let found = rw c.in-Some.is at c.in_ok-arcs.ensures in
    let got = got_first c.in-Some.arcs.items c.in-Some-copied.joined (c.in-Some-copied.ensures ∙ (rw c.deref.ensures.value at c.first.ensures.value)) in
    arcs_read c.args.bytes.now c.in-Some.arcs.items c.insert.new.self.items found.0 found.1 got.0
    (c.in_ok-insert.ensures.items ∙ arcs_written c.in-Some.arcs.items c.in-Some-copied.joined c.min-first.result got.0 got.1 c.min-first.ensures)
