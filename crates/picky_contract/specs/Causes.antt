-- Causes by counts: answers that come only where something outside failed (own).
--
-- An object of the outside has a count of faults, a number in u64 that never falls. A call may answer
-- a fault only where the count has risen, or stands at its type's end and so can't rise.
use Rattle.std.specs.Prelude.{ℕ, ◌+◌, ◌-◌, ◌^◌, ◌≤◌, min}

-- the count has risen from before to now, or stands at its last value
abbrev pub Rose : ℕ → ℕ → Type 0
Rose before now = min (before + 1) (2 ^ 64 - 1) ≤ now
