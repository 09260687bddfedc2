use Rattle.std.proofs.Common.{◌≡◌, map, take, List, string_bytes}
use Rattle.picky_http.specs.Signing.{Line, signing_string}
use Rattle.picky_http.specs.Parts.{part_of}
use Rattle.picky_http.specs.Lines.{AreLines, request_of}
use Rattle.picky_http.proofs.signing.signing_text.Given as goal

abbrev pub invariant-loop-i : goal.invariant-loop-i
invariant-loop-i g l =
    (lines : List Line)
    × AreLines (record { request = request_of g.Q.HttpRequest.answer g.Q.HttpRequest.method g.Q.HttpRequest.target l.request; created = l.created; expires = l.expires }) (map part_of (take l.i l.headers)) lines
    × (string_bytes l.out ≡ signing_string lines)
