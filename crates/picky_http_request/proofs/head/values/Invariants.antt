use Rattle.std.proofs.Common.{◌≡◌, map, take, true}
use Rattle.std.specs.List.{list_all}
use Rattle.std.specs.Str.{trim}
use Rattle.picky_http_request.specs.Heads.{values_of}
use Rattle.picky_http_request.specs.Values.{is_text_byte}
use Rattle.picky_http_request.proofs.head.values.Given as goal

abbrev pub invariant-loop-field : goal.invariant-loop-field
invariant-loop-field l = record {
  texts : list_all (list_all is_text_byte) (values_of l.name (take l.field-index l.fields)) ≡ true;
  trimmed : map (λ t. t.now) l.found.items ≡ map trim (values_of l.name (take l.field-index l.fields));
}
