use Rattle.std.proofs.Common.{◌≡◌, length}
use Rattle.picky_asn1_oid.proofs.Septets.{read}
use Rattle.picky_asn1_oid.proofs.contents.next_number.Given as goal

abbrev pub invariant-loop-rest : goal.invariant-loop-rest
invariant-loop-rest l = read l.number l.rest ≡ read 0 l.fn.bytes

abbrev pub decreases-loop-rest : goal.decreases-loop-rest
decreases-loop-rest l = length l.rest
