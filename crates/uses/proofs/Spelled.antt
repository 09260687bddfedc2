-- What is read whole and written again.
use Rattle.std.proofs.Common.{◌≡◌, ℕ, ◌<◌, Result, Ok, Err, IfErr, sym, subst, refl, inl, inr}
use Rattle.std.specs.Prelude.{◌⊎◌, IsErrAnd}
use Rattle.picky_der.specs.declared.fault.DerError.{DerError}
use Rattle.picky_der.specs.declared.fault.DerError.TheVariants.{Truncated, WrongTag, BadLength, BadValue, TrailingBytes, TooDeep, OutOfMemory}
use Rattle.picky_der.specs.Form.{OkUnlessDeep}

-- where a value is read but for want of memory and depth, an error is one of the two
wanted : {X Y : Type 0} (view : X → Y) (height : ℕ) (e : DerError) (y : Y) → OkUnlessDeep view height (Err e) y → (e ≡ OutOfMemory) ⊎ (256 < height)
wanted view height OutOfMemory y h = inl refl
wanted view height TooDeep y h = inr h
wanted view height Truncated y h = absurd h
wanted view height (WrongTag a b) y h = absurd h
wanted view height BadLength y h = absurd h
wanted view height BadValue y h = absurd h
wanted view height TrailingBytes y h = absurd h

pub wanted_alone : {X Y V : Type 0} (view : X → Y) (height : ℕ) (e : DerError) (y : Y) (result : Result V DerError) → OkUnlessDeep view height (Err e) y → IsErrAnd result (λ d. d ≡ e)
    → IfErr result (λ d. (d ≡ OutOfMemory) ⊎ (256 < height))
wanted_alone view height e y (Ok v) h is = tt
wanted_alone view height e y (Err d) h is = subst (λ (d : DerError). (d ≡ OutOfMemory) ⊎ (256 < height)) (sym is) (wanted view height e y h)
