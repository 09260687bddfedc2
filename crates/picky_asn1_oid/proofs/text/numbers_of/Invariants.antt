use Rattle.std.proofs.Common.{length, IsUtf8}
use Rattle.picky_asn1_oid.proofs.Dots.{HasTakenText}
use Rattle.picky_asn1_oid.proofs.text.numbers_of.Given as goal

abbrev pub invariant-loop-front : goal.invariant-loop-front
invariant-loop-front l = HasTakenText l.fn.text l.numbers.items l.rest × IsUtf8 l.rest

abbrev pub decreases-loop-front : goal.decreases-loop-front
decreases-loop-front l = length l.rest
