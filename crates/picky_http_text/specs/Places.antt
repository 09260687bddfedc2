-- Where a part of a text stands in it (own).
use Rattle.std.specs.Prelude.{◌≡◌, ℕ, ◌+◌, ◌≤◌, List, ◌++◌, length, IsUtf8, Option, IfSome}
use Rattle.std.specs.Str.{IsCharBoundary}
use Rattle.picky_http_text.specs.declared.span.Span.{Span}

-- the span lies in the text, and the text may be cut at both its ends
pub record IsSpan (text : List ℕ) (span : Span) : Type 0 where
  pub ordered : span.start ≤ span.end
  pub start : IsCharBoundary text span.start
  pub end : IsCharBoundary text span.end

-- the part stands in the text from the span's start to its end, and the text may be cut at both
pub record IsAt (text part : List ℕ) (span : Span) : Type 0 where
  pub front : List ℕ
  pub back : List ℕ
  pub cut : text ≡ front ++ (part ++ back)
  pub start : span.start ≡ length front
  pub end : span.end ≡ length front + length part
  pub part_is_text : IsUtf8 part
  pub back_is_text : IsUtf8 back

-- a span that is there lies in the text
abbrev pub MayBeSpan : List ℕ → Option Span → Type 0
MayBeSpan text span = IfSome span (IsSpan text)
