use Rattle.std.proofs.Common.{length}
use denote.Text.{Utf8}
use denote.Shadow.{shadow}
use Rattle.picky_http_text.specs.Progress.{IsScanned}
use Rattle.picky_http_text.proofs.items.raw_span.Given as goal

abbrev pub invariant-loop-piece : goal.invariant-loop-piece
invariant-loop-piece l = shadow (Utf8 l.rest) × IsScanned l.fn.text l.initial.rest l.rest l.key l.at l.found

abbrev pub decreases-loop-piece : goal.decreases-loop-piece
decreases-loop-piece l = length l.rest
