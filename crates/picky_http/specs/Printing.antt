-- Header texts as they are printed (draft-cavage-http-signatures-12, sections 2.1 and 4.1; the form with the flag is own).
use Rattle.std.specs.Prelude.{◌≡◌, ℕ, ◌<◌, ◌^◌, Bool, true, false, IsTrue, if◌then◌else◌, List, [], ◌∷◌, ◌++◌, length, map, Option, Some, None, IfSome, option_map, flat_map, IsUtf8}
use Rattle.std.specs.List.{join_with_byte, AllByRecursion}
use Rattle.std.specs.Fmt.{decimal}
use Rattle.std.specs.Str.{trim}
use Rattle.picky_contract.specs.Text.{Lacks}
use Rattle.picky_base64.specs.Base64.{B64}
use Rattle.picky_key.specs.declared.algorithm.SignatureAlgorithm.{SignatureAlgorithm}
use Rattle.picky_http_text.specs.Items.{scheme, comma, equals}
use Rattle.picky_http_text.specs.Clean.{quote}
use Rattle.picky_http.specs.Algorithms.{Algorithm, known, custom, algorithm_text, algorithm_named, known_algorithm}
use Rattle.picky_http.specs.Reading.{Reading, key_id_key, signature_key, created_key, expires_key, headers_key, algorithm_key}
use Rattle.picky_http.specs.Signing.{Part, Named, Target, Created, Expires, part_text, space, IsLowerToken}
use Rattle.picky_http.specs.Verifying.{form_of}

-- `key=value`
abbrev pub item : List ℕ → List ℕ → List ℕ
item key value = key ++ equals ∷ value

-- the item of a value that is there, or none
abbrev pub optional_item : List ℕ → Option (List ℕ) → List (List ℕ)
optional_item key None = []
optional_item key (Some value) = item key value ∷ []

-- a value between double quotes, or with the flag as it is
abbrev pub quoted : Bool → List ℕ → List ℕ
quoted legacy value = if legacy then value else quote ∷ (value ++ quote ∷ [])

-- the parts, joined by single spaces
abbrev pub list_text : List Part → List ℕ
list_text parts = join_with_byte space (map part_text parts)

-- the algorithm between double quotes, or with the flag none
abbrev pub quoted_algorithm : Bool → Option Algorithm → Option (List ℕ)
quoted_algorithm legacy algorithm = if legacy then None else option_map (λ a. quoted legacy (algorithm_text a)) algorithm

-- the items, in order
abbrev pub printed_items : Reading → List (List ℕ)
printed_items r =
    item key_id_key (quoted r.legacy r.key_id)
    ∷ (optional_item algorithm_key (quoted_algorithm r.legacy r.algorithm)
    ++ (optional_item created_key (option_map decimal r.created)
    ++ (optional_item expires_key (option_map decimal r.expires)
    ++ item headers_key (quoted r.legacy (list_text r.headers))
    ∷ item signature_key (quoted r.legacy r.signature)
    ∷ [])))

-- the word `Signature`, a space, and the items, joined by commas
unfoldable pub printed : Reading → List ℕ
printed r = scheme ++ space ∷ join_with_byte comma (printed_items r)

-- texts, each behind the byte c
abbrev pub behind : ℕ → List (List ℕ) → List ℕ
behind c texts = flat_map (λ t. c ∷ t) texts

-- ---- what reads back

-- a text without comma, double quote and outer white space
pub record IsBare (text : List ℕ) : Type 0 where
  pub utf8 : IsUtf8 text
  pub no_comma : Lacks comma text
  pub no_quote : Lacks quote text
  pub trimmed : trim text ≡ text

-- a special part, or a lower-case token as a name
abbrev pub IsPlainPart : Part → Type 0
IsPlainPart (Named name) = IsLowerToken name
IsPlainPart Target = Unit {0}
IsPlainPart Created = Unit {0}
IsPlainPart Expires = Unit {0}

-- a text names the algorithm
abbrev pub HasName : SignatureAlgorithm → Type 0
HasName algorithm = (text : List ℕ) × (known_algorithm text ≡ Some algorithm)

-- an algorithm that is known has a name; another text is bare, and names none that is known
abbrev pub IsPlainAlgorithm : Algorithm → Type 0
IsPlainAlgorithm (known algorithm) = HasName algorithm
IsPlainAlgorithm (custom text) = IsBare text × (known_algorithm text ≡ None)

-- a reading whose printed text reads back as itself; its numbers are in u64, as all that are read
pub record IsPrintable (r : Reading) : Type 0 where
  pub key_id : IsBare r.key_id
  pub some : 0 < length r.headers
  pub parts : AllByRecursion IsPlainPart r.headers
  pub created : IfSome r.created (λ n. n < 2 ^ 64)
  pub expires : IfSome r.expires (λ n. n < 2 ^ 64)
  pub signature : (bytes : List ℕ) × B64 (form_of r.legacy) r.signature bytes
  pub algorithm : IfSome r.algorithm IsPlainAlgorithm
  pub flag : IsTrue r.legacy → r.algorithm ≡ None

-- the reading without its algorithm, which the flag doesn't print
abbrev pub without_algorithm : Reading → Reading
without_algorithm r = record r { algorithm = None }

-- ---- what a printed text tells of any signature under a known algorithm

-- the flag prints no algorithm, and one that has no name is told as a text of its own
abbrev pub told_algorithm : Bool → Option Algorithm → Option Algorithm
told_algorithm true a = None
told_algorithm false a = option_map (λ x. algorithm_named (algorithm_text x)) a

-- the reading as its printed text tells it
abbrev pub as_told : Reading → Reading
as_told r = record r { algorithm = told_algorithm r.legacy r.algorithm }

-- a reading under an algorithm that is known, whose printed text tells it but for a name that the algorithm hasn't
pub record IsTellable (r : Reading) (a : SignatureAlgorithm) : Type 0 where
  pub key_id : IsBare r.key_id
  pub some : 0 < length r.headers
  pub parts : AllByRecursion IsPlainPart r.headers
  pub created : IfSome r.created (λ n. n < 2 ^ 64)
  pub expires : IfSome r.expires (λ n. n < 2 ^ 64)
  pub signature : (bytes : List ℕ) × B64 (form_of r.legacy) r.signature bytes
  pub algorithm : r.algorithm ≡ Some (known a)
