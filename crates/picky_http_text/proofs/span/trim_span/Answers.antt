use Rattle.std.proofs.Common.{◌≡◌, arith, length, ap, ◌∙◌, subst, List, ℕ}
use Rattle.std.specs.Prelude.{◌+◌, ◌-◌}
use Rattle.std.specs.Str.{trim, trim_end}
use Rattle.picky_http_text.specs.Places.{IsAt}
use Rattle.picky_http_text.specs.laws.Places.{part_of_part, suffix_place, prefix_place}
use Rattle.picky_http_text.proofs.span.trim_span.Goals as goal

pub returns : goal.returns
returns c =
    let text = c.args.text.now in
    let front = c.trim_start-front.result.now in
    let inner = c.trim_end.result.now in
    let start = c.trim_start-front.ensures.value in
    let end = c.trim_end.ensures.value in
    let outer = suffix_place text front start.0 c.trim_start-front.utf8 start.1 in
    let part = prefix_place front inner c.trim_start-front.utf8 c.trim_end.utf8 (rw end.4 end.1) (rw end.4 end.5) in
    let same : inner ≡ trim text = c.trim_end.ensures.trim ∙ ap trim_end c.trim_start-front.ensures.trim in
    subst (λ (p : List ℕ). IsAt text p (record { start = length text - length front; end = length text - length front + length inner })) same
    (part_of_part text front inner _ _ (record { start = length text - length front; end = length text - length front + length inner }) outer part (omega arith) (omega arith))
