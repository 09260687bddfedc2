-- Steps of reading and the height that they need.
use Rattle.std.proofs.Common.{◌≡◌, ℕ, ◌+◌, max, List, ◌++◌, Result, Ok, ap, ◌∙◌}
use Rattle.picky_asn1_tag.specs.declared.tag.Tag.{Tag}
use Rattle.picky_der.specs.declared.fault.DerError.{DerError}
use Rattle.picky_der.specs.Reading.{◌>>=◌, within, nested_at}
use Rattle.picky_der.specs.Form.{IsValue}
use Rattle.picky_der.specs.laws.Depth.{within_then, within_next, within_inner}
use Rattle.picky_der.specs.laws.Headers.{nested_again}

-- one step and then another
pub at_then : {A B : Type 0} (depth h k : ℕ) (r : Result A DerError) (next : A → Result B DerError) (x : A) (y : B) → r ≡ within depth h x → next x ≡ within depth k y → (r >>= next) ≡ within depth (max h k) y
at_then {B = B} depth h k r next x y e f = ap (λ z. z >>= next) e ∙ within_then depth h k x y next f

-- one step, and what is made of its value
pub at_map : {A B : Type 0} (depth h : ℕ) (r : Result A DerError) (next : A → Result B DerError) (x : A) (y : B) → r ≡ within depth h x → next x ≡ Ok y → (r >>= next) ≡ within depth h y
at_map depth h r next x y e f = ap (λ z. z >>= next) e ∙ within_next depth h x y next f

-- the contents of a value, and then what a reader nested in this one makes of them
pub at_nested : {B : Type 0} (tag : Tag) (depth h : ℕ) (c s rest : List ℕ) (next : List ℕ × List ℕ → Result B DerError) (y : B) → IsValue tag c s → next (c, rest) ≡ within (depth + 1) h y → (nested_at tag depth (s ++ rest) >>= next) ≡ within depth (1 + h) y
at_nested tag depth h c s rest next y v inner = ap (λ z. z >>= next) (nested_again tag depth c s rest v) ∙ within_inner depth h (c, rest) y next inner
