use Rattle.std.proofs.Common.{length}
use denote.Text.{Utf8}
use denote.Shadow.{shadow}
use Rattle.picky_records.specs.Lines.{AreSound}
use Rattle.picky_records.proofs.Documents.{Reads}
use Rattle.picky_records.proofs.read.lines_of.Given as goal

-- the lines so far are sound, and the rows of what is left lead to those of the whole text
abbrev pub invariant-loop-line : goal.invariant-loop-line
invariant-loop-line l = shadow (Utf8 l.rest) × (AreSound l.seen × Reads l.seen l.rest l.text)

abbrev pub decreases-loop-line : goal.decreases-loop-line
decreases-loop-line l = length l.rest
