use Rattle.std.proofs.Common.{◌≡◌, ◌++◌, length, map}
use denote.Text.{Utf8}
use denote.Shadow.{shadow}
use Rattle.picky_records.specs.Cutting.{fields_in}
use Rattle.picky_records.proofs.read.fields_of.Given as goal

-- the fields so far, and then those of what is left
abbrev pub invariant-loop-field : goal.invariant-loop-field
invariant-loop-field l = shadow (Utf8 l.rest) × (map (λ t. t.now) l.fields.items ++ fields_in l.rest ≡ fields_in l.line)

abbrev pub decreases-loop-field : goal.decreases-loop-field
decreases-loop-field l = length l.rest
