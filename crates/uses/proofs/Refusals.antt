-- The exits of a `?` that hands an error on.
use Rattle.std.proofs.Common.{◌≡◌, Option, None, Result, Ok, Err, IfErr, sym, ap, ◌∙◌, subst}
use Rattle.std.specs.Prelude.{IsErrAnd}
use Rattle.picky_contract.specs.Refusals.{OkOrMemory}

pub as_refused : {V E : Type 0} (P : E → Type 0) (result : Result V E) (e : E) → IsErrAnd result (λ d. d ≡ e) → P e → IfErr result P
as_refused P (Ok v) e is h = tt
as_refused P (Err d) e is h = subst P (sym is) h

pub wants_memory : {X Y E F : Type 0} (view : X → Y) (fault : E → Option F) (result : Result X E) (e : E) (y : Y) → IsErrAnd result (λ d. d ≡ e) → fault e ≡ None → OkOrMemory view fault result y
wants_memory view fault (Ok x) e y is h = absurd is
wants_memory view fault (Err d) e y is h = ap fault is ∙ h
