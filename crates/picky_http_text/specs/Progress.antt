-- How far a scan for the last value of a key has come (own).
use Rattle.std.specs.Prelude.{◌≡◌, ℕ, ◌+◌, List, [], ◌∷◌, ◌++◌, length, IsUtf8, Option, Some, None, flat_map}
use Rattle.std.specs.List.{AllByRecursion}
use Rattle.picky_contract.specs.Text.{Lacks}
use Rattle.picky_http_text.specs.Items.{comma, IsItem, IsNoItemOf, IsLast, IsRaw}
use Rattle.picky_http_text.specs.declared.span.Span.{Span}
use Rattle.picky_http_text.specs.Places.{IsAt}

-- the pieces, each with the comma behind it
abbrev pub with_commas : List (List ℕ) → List ℕ
with_commas pieces = flat_map (λ p. p ++ comma ∷ []) pieces

-- the span of the value in the piece, or no value
abbrev pub IsItemAt : List ℕ → List ℕ → Option Span → Type 0
IsItemAt piece key None = IsNoItemOf key piece
IsItemAt piece key (Some span) = (value : List ℕ) × IsItem piece key value × IsAt piece value span

-- the span of the last value in the pieces, or no value
abbrev pub IsLastAt : List ℕ → List ℕ → List (List ℕ) → Option Span → Type 0
IsLastAt text key pieces None = IsLast key pieces None
IsLastAt text key pieces (Some span) = (value : List ℕ) × IsLast key pieces (Some value) × IsAt text value span

-- the span of the raw value of the key, or no value
abbrev pub IsRawAt : List ℕ → List ℕ → Option Span → Type 0
IsRawAt text key None = IsRaw text key None
IsRawAt text key (Some span) = (value : List ℕ) × IsRaw text key (Some value) × IsAt text value span

-- the pieces before the rest are done, the rest begins at a place, and this was found
pub record IsScanned (text start rest key : List ℕ) (at : ℕ) (found : Option Span) : Type 0 where
  pub words : List ℕ
  pub done : List (List ℕ)
  pub text_is : text ≡ words ++ start
  pub start_is : start ≡ with_commas done ++ rest
  pub at_is : at ≡ length words + length (with_commas done)
  pub rest_is_text : IsUtf8 rest
  pub no_comma : AllByRecursion (Lacks comma) done
  pub last : IsLastAt text key done found

-- what was found before, or the span of an item in a text where its piece begins at `at`
abbrev pub IsShifted : ℕ → Option Span → Option Span → Option Span → Type 0
IsShifted at found now None = now ≡ found
IsShifted at found now (Some span) = now ≡ Some (record { start = at + span.start; end = at + span.end })

-- the value that the piece has, as a place in a text where the piece begins at `at`, or else what was found before
abbrev pub IsLater : List ℕ → List ℕ → ℕ → Option Span → Option Span → Type 0
IsLater piece key at found now =
    (item : Option Span) × IsItemAt piece key item × IsShifted at found now item
