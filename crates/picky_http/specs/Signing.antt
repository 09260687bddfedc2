-- The signing string (draft-cavage-http-signatures-12, section 2.3): one line for each part that is covered, joined by LF.
use Rattle.std.specs.Prelude.{◌≡◌, ℕ, ◌<◌, ◌^◌, Bool, ◌==◌, IsTrue, List, [], ◌∷◌, ◌++◌, map, length, codes}
use Rattle.std.specs.List.{join_with_byte, AllByRecursion, list_any}
use Rattle.std.specs.Fmt.{decimal}
use Rattle.picky_contract.specs.Text.{Lacks}

-- what a line covers
pub data Part : Type 0 where
  Named : List ℕ → Part
  Target Created Expires : Part

-- the text that a line begins with
abbrev pub part_text : Part → List ℕ
part_text (Named name) = name
part_text Target = codes "(request-target)"
part_text Created = codes "(created)"
part_text Expires = codes "(expires)"

-- LF, space and `:`
abbrev pub line_feed : ℕ
line_feed = 10

abbrev pub space : ℕ
space = 32

abbrev pub colon : ℕ
colon = 58

-- `part:` where the answer is empty, else `part: answer`
abbrev pub line_text : Part → List ℕ → List ℕ
line_text part [] = part_text part ++ colon ∷ []
line_text part (b ∷ bs) = part_text part ++ colon ∷ space ∷ b ∷ bs

-- a part with its answer
abbrev pub Line : Type 0
Line = Part × List ℕ

-- the lines, joined by LF
abbrev pub signing_string : List Line → List ℕ
signing_string lines = join_with_byte line_feed (map (λ l. line_text l.0 l.1) lines)

-- ---- lines that their signing string determines

-- a byte of a token (RFC 9110, section 5.6.2) in lower case
unfoldable pub is_name_byte : ℕ → Bool
is_name_byte b = list_any (λ c. c == b) (codes "!#$%&'*+-.^_`|~0123456789abcdefghijklmnopqrstuvwxyz")

abbrev pub IsLowerToken : List ℕ → Type 0
IsLowerToken name = (0 < length name) × AllByRecursion (λ b. IsTrue (is_name_byte b)) name

-- the answer has the form that answers of its part have
abbrev pub IsPlain : Line → Type 0
IsPlain (Named name, answer) = IsLowerToken name × Lacks line_feed answer
IsPlain (Target, answer) =
    (method : List ℕ) × (target : List ℕ) × (answer ≡ method ++ space ∷ target)
    × Lacks space method × Lacks line_feed method × Lacks line_feed target
IsPlain (Created, answer) = (n : ℕ) × (n < 2 ^ 64) × (answer ≡ decimal n)
IsPlain (Expires, answer) = (n : ℕ) × (n < 2 ^ 64) × (answer ≡ decimal n)
