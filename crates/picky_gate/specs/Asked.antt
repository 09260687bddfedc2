-- The values of the words as the code lends them (own).
use Rattle.std.specs.Prelude.{◌≡◌, ◌≤◌, ℕ, List, [], ◌∷◌, Option, option_map, length}
use Rattle.picky_gate.specs.declared.asked.AdmitWords.{AdmitWords}
use Rattle.picky_gate.specs.declared.asked.CommandWords.{CommandWords}
use Rattle.picky_gate.specs.declared.asked.CommandWords.TheVariants as lent
use Rattle.picky_gate.specs.declared.asked.GenerateWords.{GenerateWords}
use Rattle.picky_gate.specs.declared.asked.Moment.{Moment}
use Rattle.picky_gate.specs.declared.words.Values.{Values}
use Rattle.picky_gate.specs.declared.words.Values.TheVariants.{Absent, One, Many}
use Rattle.picky_gate.specs.Command.{Text, Admit, Generate, Command, admit, generate}

-- the seconds of a moment that may be absent
abbrev pub seconds_of : Option Moment → Option ℕ
seconds_of now = option_map (λ m. m.seconds) now

-- what is asked, without where its texts lie
abbrev pub admit_of : AdmitWords → Admit
admit_of w = record { keys = w.keys.now; records = w.records.now; text = w.text.now; request = option_map (λ p. p.now) w.request; now = seconds_of w.now; leeway = w.leeway; checks = w.checks }

abbrev pub generate_of : GenerateWords → Generate
generate_of w = record { seed = w.seed; count = w.count }

abbrev pub command_of : CommandWords → Command
command_of (lent.Admit w) = admit (admit_of w)
command_of (lent.Generate w) = generate (generate_of w)

-- how many values there are
abbrev pub AreValues : List Text → Values → Type 0
AreValues values Absent = values ≡ []
AreValues values (One value) = values ≡ value.now ∷ []
AreValues values Many = 2 ≤ length values
