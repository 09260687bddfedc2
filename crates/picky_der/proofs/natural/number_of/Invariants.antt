use Rattle.std.proofs.Common.{◌≡◌, drop}
use Rattle.picky_asn1_bits.specs.Integer.{unsigned_of}
use Rattle.picky_der.specs.laws.Lengths.{number_after}
use Rattle.picky_der.proofs.natural.number_of.Given as goal

abbrev pub invariant-loop-octet : goal.invariant-loop-octet
invariant-loop-octet l = number_after l.number (drop l.octet-index l.octets) ≡ unsigned_of l.octets
