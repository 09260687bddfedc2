-- The cut of a signed token (RFC 7515, sections 3.1 and 7.1), and its signed bytes (section 5.1).
use Rattle.std.specs.Prelude.{◌≡◌, ℕ, ◌<◌, List, ◌∷◌, ◌++◌, length}
use Rattle.std.specs.Borrow.{Bor}
use Rattle.picky_contract.specs.Text.{Lacks}

-- `.`
abbrev pub dot : ℕ
dot = 46

-- the texts of the three parts
pub record Parts : Type 0 where
  pub header : List ℕ
  pub payload : List ℕ
  pub signature : List ℕ

-- the token is `h.p.s`: h and s aren't empty and hold no dot
pub record PartsOf (token : List ℕ) (x : Parts) : Type 0 where
  pub joined : token ≡ x.header ++ dot ∷ (x.payload ++ dot ∷ x.signature)
  pub first : Lacks dot x.header
  pub last : Lacks dot x.signature
  pub header : 0 < length x.header
  pub signature : 0 < length x.signature

-- the signed bytes of `h.p.s` are those of `h.p`, as they stand
abbrev pub signed_part : Parts → List ℕ
signed_part x = x.header ++ dot ∷ x.payload

-- a text before its last dot and after it
pub record Halves : Type 0 where
  pub signed : List ℕ
  pub signature : List ℕ

-- the text has a dot and doesn't end with one
pub record HalvesOf (token : List ℕ) (x : Halves) : Type 0 where
  pub joined : token ≡ x.signed ++ dot ∷ x.signature
  pub last : Lacks dot x.signature
  pub signature : 0 < length x.signature

abbrev pub parts_view : Bor (List ℕ) × Bor (List ℕ) × Bor (List ℕ) → Parts
parts_view p = record { header = p.0.now; payload = p.1.now; signature = p.2.now }

abbrev pub halves_view : Bor (List ℕ) × Bor (List ℕ) → Halves
halves_view p = record { signed = p.0.now; signature = p.1.now }
