-- Steps of reading: what follows where they didn't fail.
use Rattle.std.proofs.Common.{◌≡◌, Bool, true, false, cond, ◌⊎◌, Result, Ok, Err, refl, sym, ap, ◌∙◌, inl, inr}
use Rattle.std.specs.Prelude.{◌||◌, IfOk, OnOk}
use Rattle.picky_der.specs.declared.fault.DerError.{DerError}
use Rattle.picky_der.specs.declared.fault.DerError.TheVariants.{Truncated, WrongTag, BadLength, BadValue, TrailingBytes, TooDeep, OutOfMemory}
use Rattle.picky_der.specs.Reading.{◌>>=◌, Fails, Gives, Answers}
use Rattle.picky_der.specs.Form.{OkIs}

-- a choice that came out as z
pub chosen : {A : Type 0} (b : Bool) (x y z : A) → cond b x y ≡ z → ((b ≡ true) × (x ≡ z)) ⊎ ((b ≡ false) × (y ≡ z))
chosen true x y z e = inl (refl, e)
chosen false x y z e = inr (refl, e)

-- neither of two tests passes
pub or_false : (a b : Bool) → (a || b) ≡ false → (a ≡ false) × (b ≡ false)
or_false true b e = absurd cc
or_false false b e = (refl, e)

abbrev pub good : {A : Type 0} → A → Result A DerError
good x = Ok x

pub ok_is : {A : Type 0} (x y : A) → good x ≡ good y → x ≡ y
ok_is x y e = cc

-- a test that would have failed didn't
pub guard_ok : {A : Type 0} (b : Bool) (d : DerError) (r : Result A DerError) (y : A) → cond b (Err d) r ≡ Ok y → (b ≡ false) × (r ≡ Ok y)
guard_ok true d r y e = absurd cc
guard_ok false d r y e = (refl, e)

-- the same with the branches exchanged
pub need_ok : {A : Type 0} (b : Bool) (d : DerError) (r : Result A DerError) (y : A) → cond b r (Err d) ≡ Ok y → (b ≡ true) × (r ≡ Ok y)
need_ok true d r y e = (refl, e)
need_ok false d r y e = absurd cc

-- the value of a first step, and what the next made of it
pub bind_ok : {A B : Type 0} (r : Result A DerError) (f : A → Result B DerError) (y : B) → (r >>= f) ≡ Ok y → (x : A) × (r ≡ Ok x) × (f x ≡ Ok y)
bind_ok (Ok x) f y e = (x, refl, e)
bind_ok (Err d) f y e = absurd cc

pub pair_fst : {A B : Type 0} (p q : A × B) → p ≡ q → p.0 ≡ q.0
pair_fst {A = A} {B = B} p q e = ap (λ (r : A × B). r.0) e

pub pair_snd : {A B : Type 0} (p q : A × B) → p ≡ q → p.1 ≡ q.1
pair_snd {A = A} {B = B} p q e = ap (λ (r : A × B). r.1) e

-- a fault is what fails with it
pub Fails-of : {X : Type 0} (e : DerError) (r : Result X DerError) → r ≡ Err e → Fails e r
Fails-of OutOfMemory r h = tt
Fails-of Truncated r h = h
Fails-of (WrongTag a b) r h = h
Fails-of BadLength r h = h
Fails-of BadValue r h = h
Fails-of TrailingBytes r h = h
Fails-of TooDeep r h = h

-- a fault of one reading is the fault of another that fails where it does
pub Fails-over : {X Y : Type 0} (e : DerError) (r : Result X DerError) (s : Result Y DerError) → Fails e r → ((d : DerError) → r ≡ Err d → s ≡ Err d) → Fails e s
Fails-over OutOfMemory r s h k = tt
Fails-over Truncated r s h k = k _ h
Fails-over (WrongTag a b) r s h k = k _ h
Fails-over BadLength r s h k = k _ h
Fails-over BadValue r s h k = k _ h
Fails-over TrailingBytes r s h k = k _ h
Fails-over TooDeep r s h k = k _ h

-- what holds of each value that reading gives holds of what the call gave
pub IfOk-from : {X Y : Type 0} (view : X → Y) (P : Y → Type 0) (result : Result X DerError) (read : Result Y DerError) → Gives view result read → ((y : Y) → read ≡ Ok y → P y) → IfOk result (λ x. P (view x))
IfOk-from view P (Ok x) read p h = h (view x) p
IfOk-from view P (Err e) read p h = tt

-- the same of a call that takes no memory
pub IfOk-answers : {X Y : Type 0} (view : X → Y) (P : Y → Type 0) (result : Result X DerError) (read : Result Y DerError) → Answers view result read → ((y : Y) → read ≡ Ok y → P y) → IfOk result (λ x. P (view x))
IfOk-answers view P (Ok x) read p h = h (view x) p
IfOk-answers view P (Err e) read p h = tt

-- a call that takes no memory answers what reading gives
pub OkIs-answers : {X Y : Type 0} (view : X → Y) (result : Result X DerError) (read : Result Y DerError) (y : Y) → Answers view result read → read ≡ Ok y → OkIs view result y
OkIs-answers view (Ok x) read y p q = ok_is (view x) y (sym p ∙ q)
OkIs-answers view (Err e) read y p q = absurd (cc (p, q))

-- what follows where reading doesn't fail follows where the call didn't
pub OnOk-answers : {X : Type 0} (P : Type 0) (result read : Result X DerError) → Answers (λ (x : X). x) result read → ((x : X) → read ≡ Ok x → P) → OnOk result P
OnOk-answers P (Ok x) read p h = h x p
OnOk-answers P (Err e) read p h = tt
