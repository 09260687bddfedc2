use Rattle.std.proofs.Common.{◌≡◌, ◌<◌, All}
use Rattle.picky_asn1_text.specs.Bmp.{two_bytes_each}
use Rattle.picky_asn1_text.proofs.texts.BmpString.from_str.Given as goal

abbrev pub invariant-loop-character : goal.invariant-loop-character
invariant-loop-character l = (l.bytes.items ≡ two_bytes_each l.yielded) × All (λ c. c < 0x1_0000) l.yielded
