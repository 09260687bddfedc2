use Rattle.std.proofs.Common.{arith}
use Rattle.std.proofs.lemmas.Bool.{ltb-true, lt-ltb, leb-true, le-leb}
use Rattle.picky_asn1_oid.proofs.Arcs.{arcs_low, arcs_two}
use Rattle.picky_asn1_oid.proofs.text.are_arcs.Goals as goal

pub returns-in-0 : goal.returns-in-0
returns-in-0 c =
    let is = arcs_low c.args.numbers.now c.in-0.len_at_least (omega arith) (λ i. omega (arith, c.type_inv.numbers i)) in
    ((λ test. is.0 (ltb-true _ _ test)), (λ arcs. lt-ltb _ _ (is.1 arcs)))

pub returns-in-2 : goal.returns-in-2
returns-in-2 c =
    let is = arcs_two c.args.numbers.now c.in-2.len_at_least (omega arith) (λ i. omega (arith, c.type_inv.numbers i)) in
    ((λ test. is.0 (leb-true _ _ test)), (λ arcs. le-leb _ _ (is.1 arcs)))
