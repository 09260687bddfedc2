use Rattle.std.proofs.Common.{take}
use Rattle.std.specs.Fmt.{HasWritten, IsPlainFormatter}
use Rattle.picky_asn1_tag.specs.Hex.{hex_bytes}
use Rattle.picky_asn1_tag.proofs.hex.write_digits.Given as goal

abbrev pub invariant-loop-byte : goal.invariant-loop-byte
invariant-loop-byte g l =
    IsPlainFormatter l.initial.f → HasWritten g.W.Write.write_str_gives l.initial.f (hex_bytes (take l.byte-index l.bytes)) l.f
