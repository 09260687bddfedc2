use Rattle.std.proofs.Common.{◌∙◌, arith, length-set}
use Rattle.picky_asn1_date.proofs.Places.{read_more, read_all, not_next, not_last, last_is, last_not}
use Rattle.picky_asn1_date.proofs.text.read_pairs.Goals as goal

pub returns-in_default-clause-none : goal.returns-in_default-clause-none
returns-in_default-clause-none g c = not_next c.args.bytes.now c.loop-number.number-items c.loop-number.left.now c.loop-number.number-index g.row.N (omega arith) c.loop-number.invariant.0 c.loop-number.invariant.1.0 c.in_default.ensures.none

pub loop-number-preserved : goal.loop-number-preserved
loop-number-preserved g c = (
  length-set c.loop-number.number-items c.loop-number.number-index _ ∙ c.loop-number.invariant.0,
  read_more c.args.bytes.now c.loop-number.number-items c.loop-number.left.now c.in-Some.rest.now c.loop-number.number-index c.in-Some.value (omega arith) c.loop-number.invariant.1 c.in-Some.ensures.found,
)

pub returns-then-eq-clause-found : goal.returns-then-eq-clause-found
returns-then-eq-clause-found g c =
    let all = read_all c.args.bytes.now c.loop-number.number-items c.loop-number.left.now c.loop-number.number-index (omega arith) c.loop-number.invariant.1 (last_is c.loop-number.left.now c.as_slice.result.now c.eq.result c.eq.ensures c.as_slice.ensures c.if-eq.true) in
    (c.loop-number.invariant.0, all.0, all.1)

pub returns-else-eq-clause-none : goal.returns-else-eq-clause-none
returns-else-eq-clause-none g c = not_last c.args.bytes.now c.loop-number.number-items c.loop-number.left.now c.loop-number.number-index g.row.N (omega arith) c.loop-number.invariant.0 c.loop-number.invariant.1.0 (last_not c.loop-number.left.now c.as_slice.result.now c.eq.result c.eq.ensures c.as_slice.ensures c.if-eq.false)
