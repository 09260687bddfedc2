use Rattle.std.proofs.Common.{◌≡◌, map, take, string_bytes}
use Rattle.picky_http_request.specs.Values.{join_texts}
use Rattle.picky_http_request.proofs.join.join.Given as goal

abbrev pub invariant-loop-i : goal.invariant-loop-i
invariant-loop-i l = string_bytes l.out ≡ join_texts l.separator (map (λ t. t.now) (take l.i l.texts))
