-- What a cabinet and a sink in memory hold, and what a fetch and a write make of it (own).
use Rattle.std.specs.Prelude.{ℕ, ◌+◌, ◌-◌, ◌^◌, min, List, [], ◌∷◌, ◌++◌, Contains, Option, Some, None, length, take, refl}
use Rattle.std.specs.Coded.{Coded, code_by, coded×, coded_list, coded_ℕ}
use Rattle.std.specs.FinMap as finite
use Rattle.picky_ring.specs.TextMap.{TextMap}

-- the bytes under each path, the paths that were asked for so far, the faults, how many calls there were, and which
-- calls fail, counted from 1
pub record Shelf : Type 0 where
  pub files : TextMap (List ℕ)
  pub asked : List (List ℕ)
  pub faults : ℕ
  pub calls : ℕ
  pub failing : List ℕ

-- the count of faults after one more; it stays at its last value
abbrev pub counted : ℕ → ℕ
counted faults = min (faults + 1) (2 ^ 64 - 1)

-- after a call
abbrev pub called : Shelf → Shelf
called s = record s { calls = counted s.calls }

-- after a call that asked for the path
abbrev pub noted : Shelf → List ℕ → Shelf
noted s path = record s { asked = s.asked ++ path ∷ []; calls = counted s.calls }

-- the next call is one of those that fail
abbrev pub FailsNext : Shelf → Type 0
FailsNext s = Contains s.failing (counted s.calls)

-- what stands under the path, which is nothing where none does
abbrev pub or_nothing : Option (List ℕ) → List ℕ
or_nothing None = []
or_nothing (Some content) = content

-- the bytes under each path, and the paths that were asked for so far
pub record Fixed : Type 0 where
  pub files : TextMap (List ℕ)
  pub asked : List (List ℕ)

-- it is stored as a pair of its fields
abbrev pub fixed_code : Coded Fixed
fixed_code =
    code_by (TextMap (List ℕ) × List (List ℕ)) (coded× (finite.code (coded_list coded_ℕ) (coded_list coded_ℕ)) (coded_list (coded_list coded_ℕ)))
    (λ s. (s.files, s.asked)) (λ p. record { files = p.0; asked = p.1 }) (λ _. refl)

-- a shelf is stored as pairs of its fields
abbrev pub shelf_code : Coded Shelf
shelf_code =
    code_by (TextMap (List ℕ) × (List (List ℕ) × (ℕ × (ℕ × List ℕ))))
    (coded× (finite.code (coded_list coded_ℕ) (coded_list coded_ℕ)) (coded× (coded_list (coded_list coded_ℕ)) (coded× coded_ℕ (coded× coded_ℕ (coded_list coded_ℕ)))))
    (λ s. (s.files, (s.asked, (s.faults, (s.calls, s.failing))))) (λ p. record { files = p.0; asked = p.1.0; faults = p.1.1.0; calls = p.1.1.1.0; failing = p.1.1.1.1 }) (λ _. refl)

-- the bytes written, the room that is left, and the faults so far
pub record Filled : Type 0 where
  pub bytes : List ℕ
  pub room : ℕ
  pub faults : ℕ

-- how many bytes of a piece are taken: all, or as many as there is room for
abbrev pub taken : Filled → List ℕ → ℕ
taken s piece = min (length piece) s.room

-- after a piece: its first bytes stand after those before, and take up room
abbrev pub filled : Filled → List ℕ → Filled
filled s piece = record { bytes = s.bytes ++ take (taken s piece) piece; room = s.room - taken s piece; faults = s.faults }
