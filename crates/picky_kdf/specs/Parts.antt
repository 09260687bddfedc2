-- A text of a wanted size as the front of numbered parts that are joined (RFC 8018, section 5.2, steps 2 to 4).
use Rattle.std.specs.Prelude.{ℕ, List}
use Rattle.std.specs.List.{flat_map, range_with_len}

-- `count` parts joined, the first of them under the number `first`
abbrev pub joined : (ℕ → List ℕ) → ℕ → ℕ → List ℕ
joined part first count = flat_map part (range_with_len first count)
