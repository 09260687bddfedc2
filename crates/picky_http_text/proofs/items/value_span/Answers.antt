use Rattle.std.proofs.Common.{lit<, refl, sym, ◌∙◌}
use Rattle.std.specs.Str.{trim}
use Rattle.std.proofs.lemmas.Bool.{both_ways}
use Rattle.std.proofs.lemmas.Slice.Eq.{bytes_eq-Decides}
use Rattle.picky_http_text.specs.laws.Places.{part_of_part}
use Rattle.picky_http_text.proofs.Pieces.{other_key_no_item}
use Rattle.picky_http_text.proofs.Scans.{after_place}
use Rattle.picky_http_text.proofs.items.value_span.Goals as goal

pub returns-then-eq : goal.returns-then-eq
returns-then-eq c =
    let piece = c.args.piece.now in
    let before = c.in-Some.before.now in
    let after = c.in-Some.after.now in
    let cut = c.in-Some.ensures.found in
    let same = (bytes_eq-Decides c.trim.result.now c.args.key.now).0 (sym c.eq.ensures ∙ c.if-eq.true) in (
      trim after,
      record { before = before; after = after; split = cut.joined; no_equals = cut.lacks; key_is = sym same ∙ c.trim.ensures.trim; value_is = refl },
      part_of_part piece after (trim after) _ c.trim_span.result c.shifted.result (after_place piece before after 61 (lit< tt) cut.joined c.utf8.piece) c.trim_span.ensures c.shifted.ensures.start c.shifted.ensures.end,
    )

pub returns-else-eq : goal.returns-else-eq
returns-else-eq c =
    let other = both_ways c.eq.result c.if-eq.false in
    let same = (bytes_eq-Decides c.trim.result.now c.args.key.now).1 in
    other_key_no_item c.args.piece.now c.in-Some.before.now c.in-Some.after.now c.args.key.now c.in-Some.ensures.found (λ e. other (c.eq.ensures ∙ same (c.trim.ensures.trim ∙ e)))
