use Rattle.std.proofs.Common.{◌≡◌, map, true}
use Rattle.std.specs.List.{list_all}
use Rattle.std.specs.Str.{trim}
use Rattle.picky_http_request.specs.Values.{is_text_byte}
use Rattle.picky_http_request.proofs.parts.values.Given as goal

abbrev pub invariant-loop-value : goal.invariant-loop-value
invariant-loop-value l = record {
  texts : list_all (list_all is_text_byte) (map (λ v. v.now.bytes) l.yielded) ≡ true;
  trimmed : map (λ t. t.now) l.found.items ≡ map trim (map (λ v. v.now.bytes) l.yielded);
}
