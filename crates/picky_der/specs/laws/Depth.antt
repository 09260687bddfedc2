-- What a height allows: values one after another, and one in the other.
use Rattle.std.proofs.Common.{◌≡◌, ℕ, ◌+◌, ◌-◌, ◌<◌, ◌≤◌, ◌⊎◌, max, true, false, leb, Result, Ok, Err, refl, sym, ◌∙◌, arith, inl, inr}
use Rattle.std.proofs.Math.Nat.{le-max_left, le-max_right, max-le}
use Rattle.std.proofs.lemmas.Bool.{le-leb, lt-leb, leb-true, leb-false, lt-ltb, le-ltb}
use Rattle.picky_der.specs.declared.fault.DerError.{DerError}
use Rattle.picky_der.specs.declared.fault.DerError.TheVariants.{TooDeep}
use Rattle.picky_der.specs.Reading.{◌>>=◌, deeper, within}

-- the height is at most what the depth leaves, or it isn't
pub either_way : (depth height : ℕ) → (height ≤ 256 - depth) ⊎ (256 - depth < height)
either_way depth height = elim (leb height (256 - depth)) as (λ t. leb height (256 - depth) ≡ t → (height ≤ 256 - depth) ⊎ (256 - depth < height)) [
  | true ↦ λ e. inl (leb-true height (256 - depth) e)
  | false ↦ λ e. inr (leb-false height (256 - depth) e)
] refl

-- what is left allows the height
pub allowed : {A : Type 0} (depth height : ℕ) (x : A) → height ≤ 256 - depth → within depth height x ≡ Ok x
unfolding within
allowed depth height x h = rw (le-leb height (256 - depth) h) refl

pub too_deep : {A : Type 0} (depth height : ℕ) (x : A) → 256 - depth < height → within depth height x ≡ Err TooDeep
unfolding within
too_deep depth height x h = rw (lt-leb height (256 - depth) h) refl

-- depth and height are at most 256 together
pub within_ok : {A : Type 0} (depth height : ℕ) (x : A) → depth + height ≤ 256 → within depth height x ≡ Ok x
within_ok depth height x h = allowed depth height x (omega arith)

-- depth and height are above 256 together
pub within_deep : {A : Type 0} (depth height : ℕ) (x : A) → depth ≤ 256 → 256 < depth + height → within depth height x ≡ Err TooDeep
within_deep depth height x d h = too_deep depth height x (omega arith)

-- a value that nests no reader
pub within_none : {A : Type 0} (depth : ℕ) (x : A) → within depth 0 x ≡ Ok x
within_none depth x = allowed depth 0 x (omega arith)

-- what follows doesn't fail
pub within_next : {A B : Type 0} (depth height : ℕ) (x : A) (y : B) (next : A → Result B DerError) → next x ≡ Ok y → (within depth height x >>= next) ≡ within depth height y
within_next depth height x y next e = elim (either_way depth height) [
  | inl h ↦ rw (allowed depth height x h, e) (sym (allowed depth height y h))
  | inr h ↦ rw (too_deep depth height x h) (sym (too_deep depth height y h))
]

-- a value and then one more nest as many readers as the greater of the two
pub within_then : {A B : Type 0} (depth height later : ℕ) (x : A) (y : B) (next : A → Result B DerError) → next x ≡ within depth later y → (within depth height x >>= next) ≡ within depth (max height later) y
within_then depth height later x y next e = elim (either_way depth height) [
  | inl h ↦ rw (allowed depth height x h, e) (elim (either_way depth later) [
    | inl k ↦ allowed depth later y k ∙ sym (allowed depth (max height later) y (max-le h k))
    | inr k ↦ too_deep depth later y k ∙ sym (too_deep depth (max height later) y (omega (arith, le-max_right height later)))
  ])
  | inr h ↦ rw (too_deep depth height x h) (sym (too_deep depth (max height later) y (omega (arith, le-max_left height later))))
]

-- one reader more, and a value in it
pub within_inner : {A B : Type 0} (depth height : ℕ) (x : A) (y : B) (next : A → Result B DerError) → next x ≡ within (depth + 1) height y → (within depth 1 x >>= next) ≡ within depth (1 + height) y
within_inner depth height x y next e = elim (either_way depth 1) [
  | inl h ↦ rw (allowed depth 1 x h, e) (elim (either_way (depth + 1) height) [
    | inl k ↦ allowed (depth + 1) height y k ∙ sym (allowed depth (1 + height) y (omega arith))
    | inr k ↦ too_deep (depth + 1) height y k ∙ sym (too_deep depth (1 + height) y (omega arith))
  ])
  | inr h ↦ rw (too_deep depth 1 x h) (sym (too_deep depth (1 + height) y (omega arith)))
]

-- a reader that may be nested is one of height 1
pub deeper_is : {A : Type 0} (depth : ℕ) (x : A) → deeper depth x ≡ within depth 1 x
unfolding deeper
deeper_is depth x = elim (either_way depth 1) [
  | inl h ↦ rw (lt-ltb depth 256 (omega arith)) (sym (allowed depth 1 x h))
  | inr h ↦ rw (le-ltb depth 256 (omega arith)) (sym (too_deep depth 1 x h))
]
