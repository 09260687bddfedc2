-- Where a reader stands (own).
use Rattle.std.specs.Prelude.{ℕ, List}

-- the bytes that are left, and how many readers this one is nested in
pub record Place : Type 0 where
  pub left : List ℕ
  pub depth : ℕ
