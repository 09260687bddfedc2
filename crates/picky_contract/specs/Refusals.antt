-- Tables of refusals: what a call answers, in the form that every crate uses (own).
--
-- A rule such as 'the first condition that fails decides the refusal; where none fails, this is the
-- value; want of memory may come at any point' is written once, as a table. From it follow which
-- value is right, that no other is, which refusal is due, and that a right value is never refused
-- but for want of memory.
use Rattle.std.specs.Prelude.{◌≡◌, ◌⊎◌, ⊤, Option, Some, None, Result, Ok, Err, IfSome}

-- Conditions in an order, each with its refusal.
pub record Table (X F : Type 0) : Type 1 where
  -- all conditions hold, with this value
  pub holds : X → Type 0
  -- the same, and no other value would do
  pub gives : X → Type 0
  -- this is the refusal of the first condition that fails
  pub refuses : F → Type 0

-- P holds of some value, or the refusal is due; later conditions may use the value
abbrev pub the : {X F : Type 0} → (X → Type 0) → F → Table X F
the {X = X} P f = record {
  holds = P;
  gives = λ x. P x × ((y : X) → P y → y ≡ x);
  refuses = λ g. (g ≡ f) × ((x : X) → ¬ (P x));
}

-- P holds, or the refusal is due
abbrev pub need : {F : Type 0} → Type 0 → F → Table ⊤ F
need P f = record { holds = λ _. P; gives = λ _. P; refuses = λ g. (g ≡ f) × (¬ P) }

-- no condition is left, and this is the value
abbrev pub done : {X F : Type 0} → X → Table X F
done x = record { holds = λ y. y ≡ x; gives = λ y. y ≡ x; refuses = λ _. ⊥ }

-- the conditions of first, and then those of next
infixl 10 ◌>>=◌
abbrev pub ◌>>=◌ : {X Y F : Type 0} → Table X F → (X → Table Y F) → Table Y F
◌>>=◌ {X = X} first next = record {
  holds = λ y. (x : X) × first.holds x × (next x).holds y;
  gives = λ y. (x : X) × first.gives x × (next x).gives y;
  refuses = λ f. first.refuses f ⊎ ((x : X) × first.gives x × (next x).refuses f);
}

-- the same conditions, with each refusal f as g f
abbrev pub named : {X F G : Type 0} → (F → G) → Table X F → Table X G
named {F = F} g t = record {
  holds = t.holds;
  gives = t.gives;
  refuses = λ h. (f : F) × t.refuses f × (h ≡ g f);
}

-- What the call returned, seen by view, is what the table says. `fault` is none for want of memory.
abbrev pub Meets : {X Y E F : Type 0} → (X → Y) → (E → Option F) → Result X E → Table Y F → Type 0
Meets view fault (Ok x) table = table.gives (view x)
Meets view fault (Err e) table = IfSome (fault e) table.refuses

-- The call returned a value that is seen as y, unless memory ran out.
abbrev pub OkOrMemory : {X Y E F : Type 0} → (X → Y) → (E → Option F) → Result X E → Y → Type 0
OkOrMemory view fault (Ok x) y = y ≡ view x
OkOrMemory view fault (Err e) y = fault e ≡ None

-- The value that was found is the only one of which P holds, or there is none.
abbrev pub Finds : {X Y : Type 0} → (X → Y) → (Y → Type 0) → Option X → Type 0
Finds {Y = Y} view P None = (y : Y) → ¬ (P y)
Finds {Y = Y} view P (Some x) = P (view x) × ((y : Y) → P y → y ≡ view x)
