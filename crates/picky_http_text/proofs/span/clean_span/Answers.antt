use Rattle.std.proofs.Common.{◌≡◌, refl, ◌∙◌}
use Rattle.std.specs.Str.{trim}
use Rattle.picky_http_text.specs.laws.Places.{part_of_part, place_is_span, place_slice}
use Rattle.picky_http_text.proofs.span.clean_span.Goals as goal

pub range-requires-clause-start_boundary : goal.range-requires-clause-start_boundary
range-requires-clause-start_boundary c _ =
    let u = c.unquoted_span-inner.ensures in
    (place_is_span c.args.value.now u.0 _ u.2).start

pub range-requires-clause-end_boundary : goal.range-requires-clause-end_boundary
range-requires-clause-end_boundary c =
    let u = c.unquoted_span-inner.ensures in
    (place_is_span c.args.value.now u.0 _ u.2).end

pub returns : goal.returns
returns c =
    let u = c.unquoted_span-inner.ensures in
    let same : c.range.result.now ≡ u.0 = c.range.ensures.value ∙ place_slice c.args.value.now u.0 c.unquoted_span-inner.result u.2 in
    let inner = rw same at c.trim_span.ensures in
    (trim u.0, (u.0, u.1, refl), part_of_part c.args.value.now u.0 (trim u.0) c.unquoted_span-inner.result c.trim_span.result c.shifted.result u.2 inner c.shifted.ensures.start c.shifted.ensures.end)
