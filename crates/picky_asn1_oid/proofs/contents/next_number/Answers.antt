use Rattle.std.proofs.Common.{sym, ◌∙◌, ap, arith}
use Rattle.picky_asn1_oid.proofs.Septets.{read, scan_last, scan_overflows, scan_stops, scan_ends, only_read, none_read, found_read}
use Rattle.picky_asn1_oid.proofs.contents.next_number.Goals as goal

pub returns-then-number-clause-every : goal.returns-then-number-clause-every
returns-then-number-clause-every c =
    none_read c.args.bytes.now (sym c.loop-rest.invariant ∙ scan_overflows c.loop-rest.number c.loop-rest.rest.now (omega arith))

pub returns-then-byte-lt128-clause-found : goal.returns-then-byte-lt128-clause-found
returns-then-byte-lt128-clause-found c =
    (found_read c.args.bytes.now _ _ (λ i. omega (arith, c.type_inv.bytes i))
    (sym c.loop-rest.invariant ∙ scan_last c.loop-rest.number c.loop-rest.rest.now c.in-len1-up.len_at_least (omega arith) (omega arith))).0

pub returns-then-byte-lt128-clause-every : goal.returns-then-byte-lt128-clause-every
returns-then-byte-lt128-clause-every c =
    only_read c.args.bytes.now _ _
    (sym c.loop-rest.invariant ∙ scan_last c.loop-rest.number c.loop-rest.rest.now c.in-len1-up.len_at_least (omega arith) (omega arith))

pub returns-then-byte-lt128-clause-shorter : goal.returns-then-byte-lt128-clause-shorter
returns-then-byte-lt128-clause-shorter c =
    (found_read c.args.bytes.now _ _ (λ i. omega (arith, c.type_inv.bytes i))
    (sym c.loop-rest.invariant ∙ scan_last c.loop-rest.number c.loop-rest.rest.now c.in-len1-up.len_at_least (omega arith) (omega arith))).1

pub returns-then-byte-clause-every : goal.returns-then-byte-clause-every
returns-then-byte-clause-every c =
    none_read c.args.bytes.now
    (sym c.loop-rest.invariant ∙ ap (λ k. read k c.loop-rest.rest.now) c.if-number-eq0.true ∙ scan_stops c.loop-rest.rest.now c.in-len1-up.len_at_least c.if-byte.true)

pub returns-clause-every : goal.returns-clause-every
returns-clause-every c =
    none_read c.args.bytes.now (sym c.loop-rest.invariant ∙ scan_ends c.loop-rest.number c.loop-rest.rest.now (omega arith))
