use Rattle.std.proofs.Common.{◌≡◌, ◌++◌, length, string_bytes}
use Rattle.std.specs.Str.{chars}
use Rattle.picky_asn1_text.specs.Bmp.{IsBmp, two_bytes_each}
use Rattle.picky_asn1_text.proofs.texts.BmpString.to_utf8.Given as goal

abbrev pub invariant-loop-unit : goal.invariant-loop-unit
invariant-loop-unit l = IsBmp l.left × (l.fn.self ≡ two_bytes_each (chars (string_bytes l.text)) ++ l.left)

abbrev pub decreases-loop-unit : goal.decreases-loop-unit
decreases-loop-unit l = length l.left
