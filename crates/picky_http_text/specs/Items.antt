-- The items of a header text (draft-cavage-http-signatures-12, section 4.1).
--
-- The text is the word `Signature` some number of times, perhaps none, and pieces joined by commas; a
-- piece with `=` is an item.
use Rattle.std.specs.Prelude.{◌≡◌, ◌≢◌, ℕ, ◌<◌, Option, Some, None, List, ◌∷◌, ◌++◌, length, codes, replicate}
use Rattle.std.specs.List.{join_with_byte, AllByRecursion, concat}
use Rattle.std.specs.Str.{trim}
use Rattle.picky_contract.specs.Text.{Lacks}

-- the scheme word
abbrev pub scheme : List ℕ
scheme = codes "Signature"

-- `,` and `=`
abbrev pub comma : ℕ
comma = 44

abbrev pub equals : ℕ
equals = 61

-- the scheme word some number of times, perhaps none, and then rest
abbrev pub IsBehindSchemes : List ℕ → List ℕ → Type 0
IsBehindSchemes text rest = (n : ℕ) × (text ≡ concat (replicate n scheme) ++ rest)

-- the pieces without commas that the text joins by commas, behind all its scheme words
pub record ArePieces (text : List ℕ) (pieces : List (List ℕ)) : Type 0 where
  pub rest : List ℕ
  pub behind : IsBehindSchemes text rest
  pub no_scheme : (more : List ℕ) → rest ≢ scheme ++ more
  pub some : 0 < length pieces
  pub no_comma : AllByRecursion (Lacks comma) pieces
  pub joined : rest ≡ join_with_byte comma pieces

-- the piece is `k=v`, where k holds no `=`; the key is k trimmed, and the value is v trimmed
pub record IsItem (piece key value : List ℕ) : Type 0 where
  pub before : List ℕ
  pub after : List ℕ
  pub split : piece ≡ before ++ equals ∷ after
  pub no_equals : Lacks equals before
  pub key_is : key ≡ trim before
  pub value_is : value ≡ trim after

-- the piece has another key, or none
abbrev pub IsNoItemOf : List ℕ → List ℕ → Type 0
IsNoItemOf key piece = (value : List ℕ) → IsItem piece key value → ⊥

-- the raw value of the last piece with the key, or none where no piece has it
abbrev pub IsLast : List ℕ → List (List ℕ) → Option (List ℕ) → Type 0
IsLast key pieces None = AllByRecursion (IsNoItemOf key) pieces
IsLast key pieces (Some value) =
    (front : List (List ℕ)) × (piece : List ℕ) × (back : List (List ℕ)) × (pieces ≡ front ++ piece ∷ back)
    × IsItem piece key value × AllByRecursion (IsNoItemOf key) back

-- the raw value of the key in the text, or none
abbrev pub IsRaw : List ℕ → List ℕ → Option (List ℕ) → Type 0
IsRaw text key value = (pieces : List (List ℕ)) × ArePieces text pieces × IsLast key pieces value
