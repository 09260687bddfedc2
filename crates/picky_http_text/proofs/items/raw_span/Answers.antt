use Rattle.std.proofs.Common.{arith, lit<, refl, sym, ◌∙◌, length, take, length-take, ap, [], ◌++◌, append-nil, List, ℕ}
use Rattle.std.specs.Prelude.{◌-◌}
use Rattle.std.proofs.lemmas.List.{take-append-drop}
use Rattle.std.proofs.lemmas.Str.{IsUtf8-nil}
use Rattle.std.proofs.lemmas.Str.Pattern.{split_parts}
use Rattle.picky_http_text.specs.Items.{scheme}
use Rattle.picky_http_text.proofs.Pieces.{lacks_from, words_cut, words_end}
use Rattle.picky_http_text.proofs.Scans.{scanned_more, piece_place, last_more, pieces_are, raw_at, after_ascii, before_ascii}
use Rattle.picky_http_text.proofs.items.raw_span.Goals as goal

pub loop-piece-init : goal.loop-piece-init
loop-piece-init c =
    let text = c.args.text.now in
    let rest = c.trim_start_matches-rest.result.now in
    let n = length text - length rest in
    let cut = c.trim_start_matches-rest.ensures in (
      c.trim_start_matches-rest.utf8,
      record {
        words = take n text;
        done = [];
        text_is = sym (take-append-drop n text) ∙ ap (λ (t : List ℕ). take n text ++ t) (sym cut.value);
        start_is = refl;
        at_is = omega (arith, length-take n text);
        rest_is_text = c.trim_start_matches-rest.utf8;
        no_comma = tt;
        last = tt;
      },
    )

pub loop-piece-preserved : goal.loop-piece-preserved
loop-piece-preserved c =
    let rest = c.loop-piece.rest.now in
    let piece = c.in-Some.piece.now in
    let more = c.in-Some.more.now in
    let all = split_parts 44 rest c.split_once.result c.split_once.ensures.cases (lit< tt) in
    let parts = rw c.in-Some.is at all in
    let s = c.loop-piece.invariant.1 in
    let after = after_ascii rest piece more 44 (lit< tt) parts.0 s.rest_is_text in (
      after,
      scanned_more c.args.text.now c.trim_start_matches-rest.result.now rest c.args.key.now c.loop-piece.at c.loop-piece.found c.later-found.result piece more s parts.0 (lacks_from 44 piece parts.1)
          (before_ascii rest piece more 44 (lit< tt) parts.0 s.rest_is_text) after c.later-found.ensures,
    )

pub returns : goal.returns
returns c =
    let text = c.args.text.now in
    let start = c.trim_start_matches-rest.result.now in
    let rest = c.loop-piece.rest.now in
    let key = c.args.key.now in
    let cut = c.trim_start_matches-rest.ensures.matches in
    let s = c.loop-piece.invariant.1 in
    let all = split_parts 44 rest c.split_once.result c.split_once.ensures.cases (lit< tt) in
    let none = rw c.in_default.is at all in
    let pieces = pieces_are text start rest key c.loop-piece.at c.loop-piece.found s (words_cut scheme text cut.0.0 start cut.0.1) (words_end scheme start (lit< tt) cut.1) (lacks_from 44 rest none) in
    raw_at text key _ c.later.result pieces
    (last_more text key s.done rest c.loop-piece.at c.loop-piece.found c.later.result s.last
    (piece_place text start rest key c.loop-piece.at c.loop-piece.found rest [] s (sym (append-nil rest)) s.rest_is_text IsUtf8-nil) c.later.ensures)
