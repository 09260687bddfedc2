-- Values without their quotes (own).
use Rattle.std.specs.Prelude.{◌≡◌, ◌≢◌, ℕ, List, [], ◌∷◌, ◌++◌, replicate, Some}
use Rattle.std.specs.Str.{trim}
use Rattle.picky_http_text.specs.declared.span.Span.{Span}
use Rattle.picky_http_text.specs.Items.{IsRaw}
use Rattle.picky_http_text.specs.Places.{IsAt}

-- `"`
abbrev pub quote : ℕ
quote = 34

-- the value without all its outer double quotes
pub record IsUnquoted (value inner : List ℕ) : Type 0 where
  pub before : ℕ
  pub after : ℕ
  pub cut : value ≡ replicate before quote ++ (inner ++ replicate after quote)
  pub no_quote_first : (more : List ℕ) → inner ≢ quote ∷ more
  pub no_quote_last : (more : List ℕ) → inner ≢ more ++ quote ∷ []

-- the value without all its outer double quotes, trimmed
abbrev pub IsClean : List ℕ → List ℕ → Type 0
IsClean value clean = (inner : List ℕ) × IsUnquoted value inner × (clean ≡ trim inner)

-- the text has the key, and this is its value, cleaned
abbrev pub IsValue : List ℕ → List ℕ → List ℕ → Type 0
IsValue text key value = (raw : List ℕ) × IsRaw text key (Some raw) × IsClean raw value

-- the span of the cleaned value
abbrev pub IsCleanAt : List ℕ → Span → Type 0
IsCleanAt value span = (clean : List ℕ) × IsClean value clean × IsAt value clean span
