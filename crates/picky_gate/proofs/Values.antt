-- The values that were found under a flag.
use Rattle.std.proofs.Common.{◌≡◌, ◌<◌, ◌≤◌, ◌++◌, List, [], ◌∷◌, length, String, Global, string_bytes, get_or, codes, take, drop, ◌-◌, Option, MatchOption, refl, ap, arith, subst, sym, ◌∙◌}
use Rattle.std.proofs.lemmas.List.{take_all}
use Rattle.picky_gate.specs.Command.{Text, values_under, Admit, AsksAdmit, Generate, AsksGenerate, Command, admit, generate, Asks, IsCommand}
use Rattle.picky_outside.specs.Outside.{texts_of}
use Rattle.picky_gate.specs.Asked.{AreValues, command_of}
use Rattle.picky_gate.specs.declared.asked.CommandWords.{CommandWords}
use Rattle.picky_gate.specs.declared.words.Values.{Values}
use Rattle.picky_gate.specs.declared.words.Values.TheVariants.{Absent, One, Many}

abbrev pub values_in : Values → List Text
values_in Absent = []
values_in (One value) = value.now ∷ []
values_in Many = [] ∷ [] ∷ []

none_left : (flag : Text) (rest : List (String Global)) → length rest < 2 → values_under flag (texts_of rest) ≡ []
none_left flag [] short = refl
none_left flag (w ∷ []) short = refl
none_left flag (v ∷ w ∷ rest) short = absurd (omega arith)

-- at the end, what was found is all
pub found_all : (flag : Text) (all : List Text) (found : Values) (rest : List (String Global)) → length rest < 2 → all ≡ values_in found ++ values_under flag (texts_of rest) → length (values_in found) ≤ 1 → AreValues all found
found_all flag all Absent rest short is few = is ∙ none_left flag rest short
found_all flag all (One value) rest short is few = is ∙ ap (λ (l : List Text). value.now ∷ l) (none_left flag rest short)
found_all flag all Many rest short is few = absurd (omega arith)

-- words that don't ask it of `admit` are no command of that name
pub no_admit : (name : Text) (words : List Text) → name ≡ codes "admit" → ((a : Admit) → AsksAdmit words a → ⊥) → (c : Command) → Asks name words c → ⊥
no_admit name words is none (admit a) asks = none a asks.1
no_admit name words is none (generate g) asks = let no : 8 ≡ 5 = ap length (sym asks.0 ∙ is) in omega (arith, no)

-- and the same of `generate`
pub no_generate : (name : Text) (words : List Text) → name ≡ codes "generate" → ((g : Generate) → AsksGenerate words g → ⊥) → (c : Command) → Asks name words c → ⊥
no_generate name words is none (admit a) asks = let no : 5 ≡ 8 = ap length (sym asks.0 ∙ is) in omega (arith, no)
no_generate name words is none (generate g) asks = none g asks.1

-- the words after the first decide
pub command_words : (words : List (String Global)) (first : String Global) (name : Text) (r : Option CommandWords) → 1 ≤ length words → first ≡ get_or words 0 first → name ≡ string_bytes first
    → MatchOption r ((c : Command) → Asks name (texts_of (take (length words - 1) (drop 1 words))) c → ⊥) (λ w. Asks name (texts_of (take (length words - 1) (drop 1 words))) (command_of w))
    → MatchOption r ((c : Command) → IsCommand (texts_of words) c → ⊥) (λ w. IsCommand (texts_of words) (command_of w))
command_words [] first name r some is named asked = absurd (omega arith)
command_words (w ∷ words) first name r some is named asked =
    subst (λ (t : Text). MatchOption r ((c : Command) → Asks t (texts_of words) c → ⊥) (λ v. Asks t (texts_of words) (command_of v))) (named ∙ ap string_bytes is)
    (rw (take_all (length (w ∷ words) - 1) words (omega arith)) at asked)
