use Rattle.std.proofs.Common.{arith, length, ap, ◌∙◌, List, ℕ, replicate, ◌++◌}
use Rattle.std.specs.Prelude.{◌+◌, ◌-◌}
use Rattle.picky_http_text.specs.laws.Places.{part_of_part, suffix_place, prefix_place}
use Rattle.picky_http_text.proofs.Quotes.{front_quotes, front_done, back_quotes, back_done, front_kept}
use Rattle.picky_http_text.proofs.span.unquoted_span.Goals as goal

pub returns : goal.returns
returns c =
    let value = c.args.value.now in
    let front = c.trim_start_matches-front.result.now in
    let inner = c.trim_end_matches.result.now in
    let start = c.trim_start_matches-front.ensures in
    let end = c.trim_end_matches.ensures in
    let before = front_quotes value start.matches.0.0 front start.matches.0.1 in
    let after = back_quotes front end.matches.0.0 inner end.matches.0.1 in
    let outer = suffix_place value front (length value - length front) c.trim_start_matches-front.utf8 start.value in
    let part = prefix_place front inner c.trim_start_matches-front.utf8 c.trim_end_matches.utf8 end.value end.bound in (
      inner,
      record {
        before = before.0;
        after = after.0;
        cut = before.1 ∙ ap (λ (t : List ℕ). replicate before.0 34 ++ t) after.1;
        no_quote_first = front_kept front inner (replicate after.0 34) (front_done front start.matches.1) after.1;
        no_quote_last = back_done inner end.matches.1;
      },
      part_of_part value front inner _ _ (record { start = length value - length front; end = length value - length front + length inner }) outer part (omega arith) (omega arith),
    )
