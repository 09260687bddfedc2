use Rattle.std.proofs.Common.{map, take}
use Rattle.std.specs.Fmt.{HasWritten, IsPlainFormatter}
use Rattle.picky_http.specs.Parts.{part_of}
use Rattle.picky_http.specs.Printing.{behind}
use Rattle.picky_http.specs.Signing.{part_text}
use Rattle.picky_http.proofs.printing.write_more.Given as goal

abbrev pub invariant-loop-part : goal.invariant-loop-part
invariant-loop-part g l =
    IsPlainFormatter l.initial.f → HasWritten g.W.Write.write_str_gives l.initial.f (behind 32 (map part_text (map part_of (take l.part-index l.parts)))) l.f
