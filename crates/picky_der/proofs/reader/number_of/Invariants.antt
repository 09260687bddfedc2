use Rattle.std.proofs.Common.{◌≡◌, ◌<◌, ◌^◌, drop}
use Rattle.picky_asn1_bits.specs.Integer.{unsigned_of}
use Rattle.picky_der.specs.laws.Lengths.{number_after}
use Rattle.picky_der.proofs.reader.number_of.Given as goal

abbrev pub invariant-loop-byte : goal.invariant-loop-byte
invariant-loop-byte l = (number_after l.number (drop l.byte-index l.bytes) ≡ unsigned_of l.bytes) × (l.number < 256 ^ l.byte-index)
