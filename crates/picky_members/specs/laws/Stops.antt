-- The exit of a `?` in a reader: where a part tells nothing, the whole tells nothing.
use Rattle.std.proofs.Common.{◌≡◌, Result, Ok, Err, sym, ◌∙◌}
use Rattle.std.specs.Prelude.{IsErrAnd}
use Rattle.picky_members.specs.declared.form.FormError.{FormError}
use Rattle.picky_members.specs.declared.form.FormError.TheVariants.{OutOfMemory}
use Rattle.picky_members.specs.Reading.{Reads, NoneOf}

pub stops : {V X Y : Type 0} (view : V → Y) (P : X → Type 0) (Q : Y → Type 0) (r : Result V FormError) (e : FormError)
    → IsErrAnd r (λ d. d ≡ e) → NoneOf P e → ((y : Y) → Q y → (x : X) × P x) → Reads view Q r
stops view P Q (Ok v) e h n part = absurd h
stops view P Q (Err d) e h n part = record { none = λ is y q. let p = part y q in n.none (sym h ∙ is) p.0 p.1 }

-- where memory ran out
pub out_of_memory : {V Y : Type 0} (view : V → Y) (Q : Y → Type 0) (r : Result V FormError) → IsErrAnd r (λ d. d ≡ OutOfMemory) → Reads view Q r
out_of_memory view Q (Ok v) h = absurd h
out_of_memory view Q (Err d) h = record { none = λ is. let e = sym h ∙ is in cc }
