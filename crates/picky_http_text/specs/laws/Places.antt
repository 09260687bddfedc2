-- Parts of a text and their places.
use Rattle.std.proofs.Common.{◌≡◌, ℕ, ◌+◌, ◌-◌, ◌≤◌, List, [], ◌++◌, length, refl, sym, subst, ◌∙◌, ap, arith, take, drop, append_assoc, length-append, length-take, length-drop, IsUtf8, rules}
use Rattle.std.specs.Prelude.{slice_range}
use Rattle.std.proofs.lemmas.Str.{IsUtf8-nil, IsUtf8-append, IsUtf8-drop, IsCharBoundary-at_seam, IsCharBoundary-from_take}
use Rattle.std.proofs.lemmas.List.{take-append-drop, take_at, drop_at}
use Rattle.picky_http_text.specs.declared.span.Span.{Span}
use Rattle.picky_http_text.specs.Places.{IsSpan, IsAt}
use Rattle.picky_http_text.specs.Clean.{IsClean, IsCleanAt}

-- a part of a part
pub part_of_part : (text part inner : List ℕ) (s t u : Span) → IsAt text part s → IsAt part inner t → u.start ≡ s.start + t.start → u.end ≡ s.start + t.end → IsAt text inner u
part_of_part text part inner s t u a b e f = record {
  front = a.front ++ b.front;
  back = b.back ++ a.back;
  cut = a.cut ∙ ap (λ (p : List ℕ). a.front ++ (p ++ a.back)) b.cut ∙ search (rules, append_assoc);
  start = omega (arith, a.start, b.start, length-append a.front b.front);
  end = omega (arith, a.start, b.end, length-append a.front b.front);
  part_is_text = b.part_is_text;
  back_is_text = IsUtf8-append b.back a.back b.back_is_text a.back_is_text;
}

-- the place of a part is a span, and the slice there is the part
pub place_is_span : (text part : List ℕ) (s : Span) → IsAt text part s → IsSpan text s
place_is_span text part s a =
    let whole : text ≡ (a.front ++ part) ++ a.back = a.cut ∙ sym (append_assoc a.front part a.back) in
    let low = IsCharBoundary-at_seam text a.front (part ++ a.back) a.cut (IsUtf8-append part a.back a.part_is_text a.back_is_text) in
    let high = IsCharBoundary-at_seam text (a.front ++ part) a.back whole a.back_is_text in
    record {
      ordered = omega (arith, a.start, a.end);
      start = rw a.start low;
      end = rw (a.end, ← length-append a.front part) high;
    }

pub place_slice : (text part : List ℕ) (s : Span) → IsAt text part s → slice_range text s.start s.end ≡ part
place_slice text part s a =
    let len : s.end - s.start ≡ length part = omega (arith, a.start, a.end) in
    rw (len, a.start, a.cut, drop_at a.front (part ++ a.back) (length a.front) refl) (take_at part a.back (length part) refl)

-- what is left behind a front
pub suffix_place : (text rest : List ℕ) (n : ℕ) → IsUtf8 rest → rest ≡ drop n text → IsAt text rest (record { start = length text - length rest; end = length text })
suffix_place text rest n u e = record {
  front = take n text;
  back = [];
  cut = sym (take-append-drop n text) ∙ search (rules, e);
  start = omega (arith, length-take n text, ap length e, length-drop n text);
  end = omega (arith, length-take n text, ap length e, length-drop n text);
  part_is_text = u;
  back_is_text = IsUtf8-nil;
}

-- what stands before an end
pub prefix_place : (text part : List ℕ) → IsUtf8 text → IsUtf8 part → part ≡ take (length part) text → length part ≤ length text → IsAt text part (record { start = 0; end = length part })
prefix_place text part t u e l = record {
  front = [];
  back = drop (length part) text;
  cut = sym (take-append-drop (length part) text) ∙ ap (λ (p : List ℕ). p ++ drop (length part) text) (sym e);
  start = refl;
  end = omega arith;
  part_is_text = u;
  back_is_text = IsUtf8-drop text (length part) t (IsCharBoundary-from_take text (length part) t l (rw (← e) u));
}

-- the cleaned value of a raw value at a place
pub clean_place : (text value part : List ℕ) (raw inner span : Span) → IsAt text value raw → part ≡ slice_range text raw.start raw.end → IsCleanAt part inner
    → span.start ≡ raw.start + inner.start → span.end ≡ raw.start + inner.end → (clean : List ℕ) × IsClean value clean × IsAt text clean span
clean_place text value part raw inner span at e cleaned f g =
    let same : part ≡ value = e ∙ place_slice text value raw at in
    let (clean, is, there) = subst (λ (p : List ℕ). IsCleanAt p inner) same cleaned in
    (clean, is, part_of_part text value clean raw inner span at there f g)
