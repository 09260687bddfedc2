-- Scanning a text piece by piece.
use Rattle.std.proofs.Common.{◌≡◌, ◌≢◌, ℕ, suc, ◌+◌, ◌-◌, ◌<◌, List, [], ◌∷◌, ◌++◌, length, refl, sym, ◌∙◌, ap, arith, get_or, drop, append_assoc, length-append, IsUtf8, Option, Some, None}
use Rattle.std.specs.List.{join_with_byte}
use Rattle.std.proofs.lemmas.Str.Ascii.{IsAscii-cons, IsAscii-nil}
use Rattle.std.proofs.lemmas.Str.{IsUtf8-from_ascii, IsUtf8-append, IsUtf8-drop, IsUtf8-take, IsUtf8-nil, IsCharBoundary-after_ascii, IsCharBoundary-before_ascii}
use Rattle.std.proofs.lemmas.List.{drop_at, take_at, append-nil}
use Rattle.std.proofs.lemmas.List.Concat.{flat_map-append}
use Rattle.picky_contract.specs.Text.{Lacks}
use Rattle.picky_http_text.specs.laws.Pieces.{all-push}
use Rattle.picky_http_text.specs.Items.{scheme, IsItem, IsNoItemOf, ArePieces, IsBehindSchemes}
use Rattle.picky_http_text.specs.declared.span.Span.{Span}
use Rattle.picky_http_text.specs.Places.{IsAt}
use Rattle.picky_http_text.specs.Progress.{with_commas, IsLastAt, IsRawAt, IsScanned, IsLater}
use Rattle.picky_http_text.specs.laws.Places.{part_of_part}

at_seam : (before after : List ℕ) (c : ℕ) → get_or (before ++ c ∷ after) (length before) 0 ≡ c
at_seam [] after c = refl
at_seam (b ∷ before) after c = at_seam before after c

-- what follows an ASCII byte of a text is text
pub after_ascii : (text before after : List ℕ) (c : ℕ) → c < 128 → text ≡ before ++ c ∷ after → IsUtf8 text → IsUtf8 after
after_ascii text before after c small e u =
    let whole : IsUtf8 (before ++ c ∷ after) = rw e at u in
    let len : length (before ++ c ∷ after) ≡ length before + suc (length after) = length-append before (c ∷ after) in
    let cut = IsCharBoundary-after_ascii (before ++ c ∷ after) (length before) whole (omega (arith, len)) (omega (arith, at_seam before after c)) in
    let rest = IsUtf8-drop (before ++ c ∷ after) (length before + 1) whole cut in
    let same : drop (length before + 1) (before ++ c ∷ after) ≡ after = ap (drop (length before + 1)) (sym (append_assoc before (c ∷ []) after)) ∙ drop_at (before ++ c ∷ []) after (length before + 1) (omega (arith, length-append before (c ∷ []))) in
    rw same at rest

-- what stands before it is text too
pub before_ascii : (text before after : List ℕ) (c : ℕ) → c < 128 → text ≡ before ++ c ∷ after → IsUtf8 text → IsUtf8 before
before_ascii text before after c small e u =
    let whole : IsUtf8 (before ++ c ∷ after) = rw e at u in
    let len : length (before ++ c ∷ after) ≡ length before + suc (length after) = length-append before (c ∷ after) in
    let cut = IsCharBoundary-before_ascii (before ++ c ∷ after) (length before) (omega (arith, len)) (omega (arith, at_seam before after c)) in
    let front = IsUtf8-take (before ++ c ∷ after) (length before) whole cut in
    rw (take_at before (c ∷ after) (length before) refl) at front

-- where the part behind an ASCII byte stands
pub after_place : (text before after : List ℕ) (c : ℕ) → c < 128 → text ≡ before ++ c ∷ after → IsUtf8 text → IsAt text after (record { start = length text - length after; end = length text })
after_place text before after c small e u = record {
  front = before ++ c ∷ [];
  back = [];
  cut = e ∙ sym (append_assoc before (c ∷ []) after) ∙ ap (λ (t : List ℕ). (before ++ c ∷ []) ++ t) (sym (append-nil after));
  start = omega (arith, ap length e, length-append before (c ∷ after), length-append before (c ∷ []));
  end = omega (arith, ap length e, length-append before (c ∷ after), length-append before (c ∷ []));
  part_is_text = after_ascii text before after c small e u;
  back_is_text = IsUtf8-nil;
}

-- the last value of one piece more, where that piece has none
last_kept : (text key : List ℕ) (done : List (List ℕ)) (piece : List ℕ) (found : Option Span) → IsLastAt text key done found → IsNoItemOf key piece → IsLastAt text key (done ++ piece ∷ []) found
last_kept text key done piece None h other = all-push (IsNoItemOf key) done piece h other
last_kept text key done piece (Some s) (value, (front, p, back, e, item, none), at) other =
    (value, (front, p, back ++ piece ∷ [], ap (λ (t : List (List ℕ)). t ++ piece ∷ []) e ∙ append_assoc front (p ∷ back) (piece ∷ []), item, all-push (IsNoItemOf key) back piece none other), at)

-- and where it has one
last_new : (text key : List ℕ) (done : List (List ℕ)) (piece value : List ℕ) (s : Span) → IsItem piece key value → IsAt text value s → IsLastAt text key (done ++ piece ∷ []) (Some s)
last_new text key done piece value s item at = (value, (done, piece, [], refl, item, tt), at)

pub last_more : (text key : List ℕ) (done : List (List ℕ)) (piece : List ℕ) (at : ℕ) (found now : Option Span) → IsLastAt text key done found
    → IsAt text piece (record { start = at; end = at + length piece }) → IsLater piece key at found now → IsLastAt text key (done ++ piece ∷ []) now
last_more text key done piece at found now h place (None, other, e) = rw e (last_kept text key done piece found h other)
last_more text key done piece at found now h place (Some s, (value, item, inner), e) =
    rw e (last_new text key done piece value (record { start = at + s.start; end = at + s.end }) item
    (part_of_part text piece value (record { start = at; end = at + length piece }) s (record { start = at + s.start; end = at + s.end }) place inner refl refl))

commas_push : (done : List (List ℕ)) (piece : List ℕ) → with_commas (done ++ piece ∷ []) ≡ with_commas done ++ (piece ++ 44 ∷ [])
commas_push done piece =
    flat_map-append (λ (p : List ℕ). p ++ 44 ∷ []) done (piece ∷ []) ∙ ap (λ (t : List ℕ). with_commas done ++ t) (append-nil (piece ++ 44 ∷ []))

-- where the piece at hand stands
pub piece_place : (text start rest key : List ℕ) (at : ℕ) (found : Option Span) (piece back : List ℕ) → IsScanned text start rest key at found → rest ≡ piece ++ back → IsUtf8 piece → IsUtf8 back
    → IsAt text piece (record { start = at; end = at + length piece })
piece_place text start rest key at found piece back s e u w = record {
  front = s.words ++ with_commas s.done;
  back = back;
  cut = s.text_is ∙ ap (λ (t : List ℕ). s.words ++ t) (s.start_is ∙ ap (λ (t : List ℕ). with_commas s.done ++ t) e) ∙ sym (append_assoc s.words (with_commas s.done) (piece ++ back));
  start = s.at_is ∙ sym (length-append s.words (with_commas s.done));
  end = omega (arith, s.at_is, length-append s.words (with_commas s.done));
  part_is_text = u;
  back_is_text = w;
}

pub scanned_more : (text start rest key : List ℕ) (at : ℕ) (found now : Option Span) (piece more : List ℕ) → IsScanned text start rest key at found → rest ≡ piece ++ 44 ∷ more → Lacks 44 piece
    → IsUtf8 piece → IsUtf8 more → IsLater piece key at found now → IsScanned text start more key (at + (length piece + 1)) now
scanned_more text start rest key at found now piece more s e l u v later = record {
  words = s.words;
  done = s.done ++ piece ∷ [];
  text_is = s.text_is;
  start_is = s.start_is ∙ ap (λ (t : List ℕ). with_commas s.done ++ t) (e ∙ sym (append_assoc piece (44 ∷ []) more)) ∙ sym (append_assoc (with_commas s.done) (piece ++ 44 ∷ []) more)
      ∙ ap (λ (t : List ℕ). t ++ more) (sym (commas_push s.done piece));
  at_is = omega (arith, s.at_is, ap length (commas_push s.done piece), length-append (with_commas s.done) (piece ++ 44 ∷ []), length-append piece (44 ∷ []));
  rest_is_text = v;
  no_comma = all-push (Lacks 44) s.done piece s.no_comma l;
  last = last_more text key s.done piece at found now s.last (piece_place text start rest key at found piece (44 ∷ more) s e u (IsUtf8-append (44 ∷ []) more (IsUtf8-from_ascii (44 ∷ []) (IsAscii-cons 44 [] (omega arith) IsAscii-nil)) v)) later;
}

commas_join : (done : List (List ℕ)) (rest : List ℕ) → with_commas done ++ rest ≡ join_with_byte 44 (done ++ rest ∷ [])
commas_join [] rest = refl
commas_join (p ∷ []) rest = ap (λ (t : List ℕ). t ++ rest) (append-nil (p ++ 44 ∷ [])) ∙ append_assoc p (44 ∷ []) rest
commas_join (p ∷ q ∷ done) rest =
    append_assoc (p ++ 44 ∷ []) (with_commas (q ∷ done)) rest ∙ append_assoc p (44 ∷ []) (with_commas (q ∷ done) ++ rest)
    ∙ ap (λ (t : List ℕ). p ++ 44 ∷ t) (commas_join (q ∷ done) rest)

pieces_some : (done : List (List ℕ)) (rest : List ℕ) → 0 < length (done ++ rest ∷ [])
pieces_some done rest = omega (arith, length-append done (rest ∷ []))

pub raw_at : (text key : List ℕ) (pieces : List (List ℕ)) (found : Option Span) → ArePieces text pieces → IsLastAt text key pieces found → IsRawAt text key found
raw_at text key pieces None a h = (pieces, a, h)
raw_at text key pieces (Some s) a (value, last, at) = (value, (pieces, a, last), at)

-- the pieces, once the last is at hand
pub pieces_are : (text start rest key : List ℕ) (at : ℕ) (found : Option Span) (s : IsScanned text start rest key at found) → IsBehindSchemes text start → ((more : List ℕ) → start ≢ scheme ++ more) → Lacks 44 rest
    → ArePieces text (s.done ++ rest ∷ [])
pieces_are text start rest key at found s behind none l = record {
  rest = start;
  behind = behind;
  no_scheme = none;
  some = pieces_some s.done rest;
  no_comma = all-push (Lacks 44) s.done rest s.no_comma l;
  joined = s.start_is ∙ commas_join s.done rest;
}
