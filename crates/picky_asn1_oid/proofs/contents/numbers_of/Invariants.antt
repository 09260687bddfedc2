use Rattle.std.proofs.Common.{length}
use Rattle.picky_asn1_oid.proofs.Sequences.{HasTaken}
use Rattle.picky_asn1_oid.proofs.contents.numbers_of.Given as goal

abbrev pub invariant-loop-rest : goal.invariant-loop-rest
invariant-loop-rest l = HasTaken l.fn.bytes l.numbers.items l.rest

abbrev pub decreases-loop-rest : goal.decreases-loop-rest
decreases-loop-rest l = length l.rest
