-- The words of the command line and the command that they are (own).
use Rattle.std.specs.Prelude.{◌≡◌, ◌<◌, ◌≤◌, ℕ, ◌⊎◌, List, [], ◌∷◌, Option, Some, None, length, codes, if◌then◌else◌, true}
use Rattle.std.specs.Str.{bytes_eq, all_ascii_digits}
use Rattle.std.specs.Str.Parse.{digits_value}
use Rattle.picky_gate.specs.declared.asked.Checks.{Checks}
use Rattle.picky_gate.specs.declared.asked.Checks.TheVariants.{Strict, Lenient, NoChecks}

-- a text, as its UTF-8 bytes
abbrev pub Text : Type 0
Text = List ℕ

-- the values that stand under a flag, where the words are flags and values in turn
abbrev pub values_under : Text → List Text → List Text
values_under flag (name ∷ value ∷ rest) = if bytes_eq name flag then value ∷ values_under flag rest else values_under flag rest
values_under flag _ = []

-- ---- manners of flags

-- the flag stands exactly once, and this is its value
abbrev pub StandsOnce : Text → List Text → Text → Type 0
StandsOnce flag words value = values_under flag words ≡ value ∷ []

-- the flag stands at most once: it doesn't, or its value is a text of this number
abbrev pub StandsAtMostOnce : {X : Type 0} → (Text → X → Type 0) → Text → List Text → Option X → Type 0
StandsAtMostOnce R flag words None = values_under flag words ≡ []
StandsAtMostOnce R flag words (Some x) = (value : Text) × StandsOnce flag words value × R value x

-- the text stands for itself
abbrev pub IsItself : Text → Text → Type 0
IsItself text x = x ≡ text

-- the text is 1 to `most` digits that write n, which is at most `last`
pub record IsNumber (most last : ℕ) (text : Text) (n : ℕ) : Type 0 where
  pub digits : all_ascii_digits text ≡ true
  pub some : 0 < length text
  pub few : length text ≤ most
  pub value : digits_value 10 text ≡ n
  pub fits : n ≤ last

-- a moment in seconds: 1 to 19 digits, at most 2^63 - 1
abbrev pub IsMoment : Text → ℕ → Type 0
IsMoment = IsNumber 19 9223372036854775807

-- a leeway in seconds: 1 to 5 digits, at most 65,535
abbrev pub IsLeeway : Text → ℕ → Type 0
IsLeeway = IsNumber 5 65535

-- the text is the word of these checks
abbrev pub IsChecks : Text → Checks → Type 0
IsChecks text Strict = text ≡ codes "strict"
IsChecks text Lenient = text ≡ codes "lenient"
IsChecks text NoChecks = text ≡ codes "none"

-- ---- `admit`

-- the flags of `admit`
abbrev pub IsFlag : Text → Type 0
IsFlag name = (name ≡ codes "--keys") ⊎ (name ≡ codes "--records") ⊎ (name ≡ codes "--text") ⊎ (name ≡ codes "--request") ⊎ (name ≡ codes "--now") ⊎ (name ≡ codes "--leeway") ⊎ (name ≡ codes "--checks")

-- the words are flags and values in turn
abbrev pub ArePairs : List Text → Type 0
ArePairs [] = Unit {0}
ArePairs (name ∷ value ∷ rest) = IsFlag name × ArePairs rest
ArePairs (name ∷ []) = ⊥

-- what `admit` is asked: the paths of its documents, the text, and the request's path, the moment, the leeway and the checks of
-- dates, where they are given
pub record Admit : Type 0 where
  pub keys : Text
  pub records : Text
  pub text : Text
  pub request : Option Text
  pub now : Option ℕ
  pub leeway : Option ℕ
  pub checks : Option Checks

-- the words ask this of `admit`: its flags in any order
pub record AsksAdmit (words : List Text) (a : Admit) : Type 0 where
  pub pairs : ArePairs words
  pub keys : StandsOnce (codes "--keys") words a.keys
  pub records : StandsOnce (codes "--records") words a.records
  pub text : StandsOnce (codes "--text") words a.text
  pub request : StandsAtMostOnce IsItself (codes "--request") words a.request
  pub now : StandsAtMostOnce IsMoment (codes "--now") words a.now
  pub leeway : StandsAtMostOnce IsLeeway (codes "--leeway") words a.leeway
  pub checks : StandsAtMostOnce IsChecks (codes "--checks") words a.checks

-- ---- `generate`

-- a seed: 1 to 20 digits, at most 2^64 - 1
abbrev pub IsSeed : Text → ℕ → Type 0
IsSeed = IsNumber 20 18446744073709551615

-- a count of texts: 1 to 5 digits, at most 10,000
abbrev pub IsCount : Text → ℕ → Type 0
IsCount = IsNumber 5 10000

-- the words are the two flags, each with its value, in either order
abbrev pub AreTwo : List Text → Text → Text → Type 0
AreTwo words seed count =
    (words ≡ codes "--seed" ∷ seed ∷ codes "--count" ∷ count ∷ [])
    ⊎ (words ≡ codes "--count" ∷ count ∷ codes "--seed" ∷ seed ∷ [])

-- what `generate` is asked: a seed, and how many texts are made of it
pub record Generate : Type 0 where
  pub seed : ℕ
  pub count : ℕ

-- the words ask this of `generate`
pub record AsksGenerate (words : List Text) (g : Generate) : Type 0 where
  pub seed : Text
  pub count : Text
  pub are : AreTwo words seed count
  pub is_seed : IsSeed seed g.seed
  pub is_count : IsCount count g.count

-- ---- the commands

-- what the program is asked
pub data Command : Type 0 where
  admit : Admit → Command
  generate : Generate → Command

-- the command of this name is asked this by the words after it
abbrev pub Asks : Text → List Text → Command → Type 0
Asks name words (admit a) = (name ≡ codes "admit") × AsksAdmit words a
Asks name words (generate g) = (name ≡ codes "generate") × AsksGenerate words g

-- the words are this command of the program
abbrev pub IsCommand : List Text → Command → Type 0
IsCommand [] c = ⊥
IsCommand (name ∷ words) c = Asks name words c

-- the words are this command `admit`, or this command `generate`
abbrev pub IsAdmit : List Text → Admit → Type 0
IsAdmit words a = IsCommand words (admit a)

abbrev pub IsGenerate : List Text → Generate → Type 0
IsGenerate words g = IsCommand words (generate g)
