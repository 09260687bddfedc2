use Rattle.std.proofs.Common.{◌≡◌, ◌++◌, length, map, codes, string_bytes}
use Rattle.picky_json.specs.Text.{json_text}
use Rattle.picky_http.specs.Parts.{part_of}
use Rattle.picky_http.specs.Signing.{part_text}
use Rattle.picky_gate.specs.Lines.{later_texts}
use Rattle.picky_gate.proofs.lines.list_text.Given as goal

abbrev pub invariant-loop-rest : goal.invariant-loop-rest
invariant-loop-rest l = string_bytes l.out ++ later_texts (map part_text (map part_of l.rest)) ≡ codes "[" ++ (json_text (part_text (part_of l.first)) ++ later_texts (map part_text (map part_of l.later)))

abbrev pub decreases-loop-rest : goal.decreases-loop-rest
decreases-loop-rest l = length l.rest
