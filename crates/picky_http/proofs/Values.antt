-- Cleaned values at their places.
use Rattle.std.proofs.Common.{◌≡◌, ◌+◌, List, ℕ}
use Rattle.std.specs.Prelude.{slice_range}
use Rattle.picky_http_text.specs.declared.span.Span.{Span}
use Rattle.picky_http_text.specs.Clean.{IsClean, IsCleanAt}
use Rattle.picky_http_text.specs.Places.{IsAt, IsSpan}
use Rattle.picky_http_text.specs.laws.Places.{place_is_span, place_slice, clean_place}
use Rattle.picky_http.specs.Reading.{at}

-- the cleaned value of a raw one, as a place in the text
pub record IsCleanedAt (text value : List ℕ) (span : Span) : Type 0 where
  pub clean : IsClean value (at text span)
  pub fits : IsSpan text span

pub cleaned_at : (text value part : List ℕ) (raw inner span : Span) → IsAt text value raw → part ≡ slice_range text raw.start raw.end → IsCleanAt part inner
    → span.start ≡ raw.start + inner.start → span.end ≡ raw.start + inner.end → IsCleanedAt text value span
cleaned_at text value part raw inner span place e cleaned f g =
    let (clean, is, there) = clean_place text value part raw inner span place e cleaned f g in
    record { clean = rw (place_slice text clean span there) is; fits = place_is_span text clean span there }
