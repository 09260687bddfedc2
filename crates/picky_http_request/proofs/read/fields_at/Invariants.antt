use Rattle.std.proofs.Common.{◌≡◌, map, take}
use Rattle.picky_http_request.specs.Heads.{span_field, field_view}
use Rattle.picky_http_request.proofs.read.fields_at.Given as goal

abbrev pub invariant-loop-header : goal.invariant-loop-header
invariant-loop-header l = map field_view l.fields.items ≡ map (span_field l.bytes) (take l.header-index l.headers)
