-- A table says one thing: a value for which its conditions hold is the only one, and then no refusal is due.
use Rattle.std.proofs.Common.{◌≡◌, IfSome, inl, inr, Option, Some, None, option_map, Result, Ok, Err, IfOk, refl, sym, ap, subst, ◌∙◌}
use Rattle.std.specs.Prelude.{◌⊎◌, IsErrAnd}
use Rattle.picky_contract.specs.Refusals.{Table, the, need, done, named, ◌>>=◌, Meets, OkOrMemory}

pub record Exact {X F : Type 0} (t : Table X F) : Type 0 where
  pub holds : (x : X) → t.gives x → t.holds x
  pub one : (x y : X) → t.gives x → t.holds y → y ≡ x
  pub apart : (f : F) (y : X) → t.refuses f → t.holds y → ⊥
  pub only : (f g : F) → t.refuses f → t.refuses g → g ≡ f

pub the_exact : {X F : Type 0} (P : X → Type 0) (f : F) → Exact (the P f)
the_exact P f = record { holds = λ x h. h.0; one = λ x y h k. h.1 y k; apart = λ g y h k. h.1 y k; only = λ g d h k. k.0 ∙ sym h.0 }

pub need_exact : {F : Type 0} (P : Type 0) (f : F) → Exact (need P f)
need_exact P f = record { holds = λ x h. h; one = λ x y h k. refl; apart = λ g y h k. h.1 k; only = λ g d h k. k.0 ∙ sym h.0 }

pub done_exact : {X F : Type 0} (x : X) → Exact (done {F = F} x)
done_exact x = record { holds = λ y h. h; one = λ y z h k. k ∙ sym h; apart = λ g y h k. h; only = λ g d h k. absurd h }

pub then_exact : {X Y F : Type 0} (t : Table X F) (next : X → Table Y F) → Exact t → ((x : X) → Exact (next x)) → Exact (t >>= next)
then_exact {X = X} {Y = Y} {F = F} t next e each = record {
  holds = λ y h. (h.0, e.holds h.0 h.1, (each h.0).holds y h.2);
  one = λ y z h k. (each h.0).one y z h.2 (subst (λ (x : X). (next x).holds z) (e.one h.0 k.0 h.1 k.1) k.2);
  apart = λ f z h k. elim h [
    | inl r ↦ e.apart f k.0 r k.1
    | inr r ↦ (each r.0).apart f z r.2 (subst (λ (x : X). (next x).holds z) (e.one r.0 k.0 r.1 k.1) k.2)
  ];
  only = λ f g h k. both f g h k;
}
  where
    both : (f g : F) → t.refuses f ⊎ ((x : X) × t.gives x × (next x).refuses f) → t.refuses g ⊎ ((x : X) × t.gives x × (next x).refuses g) → g ≡ f
    both f g (inl r) (inl s) = e.only f g r s
    both f g (inl r) (inr s) = absurd (e.apart f s.0 r (e.holds s.0 s.1))
    both f g (inr r) (inl s) = absurd (e.apart g r.0 s (e.holds r.0 r.1))
    both f g (inr r) (inr s) = (each r.0).only f g r.2 (subst (λ (x : X). (next x).refuses g) (e.one r.0 s.0 r.1 (e.holds s.0 s.1)) s.2)

-- what a caller reads from a table
pub found : {X Y E F : Type 0} (view : X → Y) (fault : E → Option F) (r : Result X E) (t : Table Y F) → Exact t → Meets view fault r t → IfOk r (λ x. t.holds (view x))
found view fault (Ok x) t e m = e.holds (view x) m
found view fault (Err d) t e m = tt

clash : {F Y : Type 0} (t : Table Y F) → Exact t → (o : Option F) → IfSome o t.refuses → (y : Y) → t.holds y → o ≡ None
clash t e None m y h = refl
clash t e (Some f) m y h = absurd (e.apart f y m h)

pub complete : {X Y E F : Type 0} (view : X → Y) (fault : E → Option F) (r : Result X E) (t : Table Y F) → Exact t → Meets view fault r t → (y : Y) → t.holds y → OkOrMemory view fault r y
complete view fault (Ok x) t e m y h = e.one (view x) y m h
complete view fault (Err d) t e m y h = clash t e (fault d) m y h

-- ---- what a function's exits show

-- a step that gave a value, and then what the later steps say
pub then_meets : {X Y Z E F : Type 0} (view : Z → Y) (fault : E → Option F) (r : Result Z E) (t : Table X F) (next : X → Table Y F) (x : X)
    → t.gives x → Meets view fault r (next x) → Meets view fault r (t >>= next)
then_meets view fault (Ok z) t next x h m = (x, h, m)
then_meets view fault (Err e) t next x h m = elim (fault e) as (λ o. IfSome o (next x).refuses → IfSome o (t >>= next).refuses) [ None ↦ λ _. tt | Some f ↦ λ k. inr (x, h, k) ] m

-- a step that refused
pub first_refuses : {X Y F : Type 0} (o : Option F) (t : Table X F) (next : X → Table Y F) → IfSome o t.refuses → IfSome o (t >>= next).refuses
first_refuses None t next h = tt
first_refuses (Some f) t next h = inl h

-- the exit of a `?` that makes d of an error
pub err_meets : {Y Z E F : Type 0} (view : Z → Y) (fault : E → Option F) (r : Result Z E) (d : E) (t : Table Y F) → IsErrAnd r (λ e. e ≡ d) → IfSome (fault d) t.refuses → Meets view fault r t
err_meets view fault (Ok z) d t h m = absurd h
err_meets view fault (Err e) d t h m = subst (λ e. IfSome (fault e) t.refuses) (sym h) m

-- a refusal of the step that is reached is a refusal of the whole
pub up : {F : Type 0} (o : Option F) (R R' : F → Type 0) → ((f : F) → R f → R' f) → IfSome o R → IfSome o R'
up None R R' k h = tt
up (Some f) R R' k h = k f h

-- a last call that is returned as it is: t is what is left of whole
pub last_meets : {X Y E F : Type 0} (view : X → Y) (fault : E → Option F) (r : Result X E) (t whole : Table Y F)
    → ((y : Y) → t.gives y → whole.gives y) → ((f : F) → t.refuses f → whole.refuses f) → Meets view fault r t → Meets view fault r whole
last_meets view fault (Ok x) t whole g s m = g (view x) m
last_meets view fault (Err e) t whole g s m = up (fault e) t.refuses whole.refuses s m

-- t is what is left of whole, after steps that gave values
pub record Leads {X F : Type 0} (t whole : Table X F) : Type 0 where
  pub gives : (x : X) → t.gives x → whole.gives x
  pub refuses : (f : F) → t.refuses f → whole.refuses f

pub leads_itself : {X F : Type 0} (t : Table X F) → Leads t t
leads_itself t = record { gives = λ x h. h; refuses = λ f h. h }

pub leads_on : {X Y F : Type 0} (t : Table X F) (next : X → Table Y F) (whole : Table Y F) (x : X) → t.gives x → Leads (t >>= next) whole → Leads (next x) whole
leads_on t next whole x h l = record { gives = λ y g. l.gives y (x, h, g); refuses = λ f r. l.refuses f (inr (x, h, r)) }

pub leads_refuses : {X Y F : Type 0} (t : Table X F) (next : X → Table Y F) (whole : Table Y F) (f : F) → t.refuses f → Leads (t >>= next) whole → whole.refuses f
leads_refuses t next whole f r l = l.refuses f (inl r)

pub leads_meets : {X Y E F : Type 0} (view : X → Y) (fault : E → Option F) (r : Result X E) (t whole : Table Y F) → Leads t whole → Meets view fault r t → Meets view fault r whole
leads_meets view fault r t whole l m = last_meets view fault r t whole l.gives l.refuses m

-- ---- refusals under another name

pub named_exact : {X F G : Type 0} (g : F → G) (t : Table X F) → Exact t → Exact (named g t)
named_exact g t e = record { holds = e.holds; one = e.one; apart = λ h y r k. e.apart r.0 y r.1 k; only = λ h d r s. s.2 ∙ ap g (e.only r.0 s.0 r.1 s.1) ∙ sym r.2 }

-- a refusal, where the error is wrapped
pub named_refuses : {X F G : Type 0} (g : F → G) (t : Table X F) (o : Option F) → IfSome o t.refuses → IfSome (option_map g o) (named g t).refuses
named_refuses g t None m = tt
named_refuses g t (Some f) m = (f, m, refl)

-- a first step that refuses, where the error is wrapped
pub step_refuses : {X Y F G : Type 0} (g : F → G) (t : Table X F) (next : X → Table Y G) (o : Option F) → IfSome o t.refuses → IfSome (option_map g o) (named g t >>= next).refuses
step_refuses g t next o m = first_refuses (option_map g o) (named g t) next (named_refuses g t o m)

-- ---- a table that says no more than another, step by step

pub then_leads : {X Y F : Type 0} (t u : Table X F) (next after : X → Table Y F) → Leads t u → ((x : X) → Leads (next x) (after x)) → Leads (t >>= next) (u >>= after)
then_leads t u next after l each = record {
  gives = λ y h. (h.0, l.gives h.0 h.1, (each h.0).gives y h.2);
  refuses = λ f h. elim h [
    | inl r ↦ inl (l.refuses f r)
    | inr r ↦ inr (r.0, l.gives r.0 r.1, (each r.0).refuses f r.2)
  ];
}

pub named_leads : {X F G : Type 0} (g : F → G) (t u : Table X F) → Leads t u → Leads (named g t) (named g u)
named_leads g t u l = record { gives = l.gives; refuses = λ h r. (r.0, l.refuses r.0 r.1, r.2) }

-- ---- at most one value, where each step has at most one

pub record Single {X F : Type 0} (t : Table X F) : Type 0 where
  pub same : (x y : X) → t.holds x → t.holds y → y ≡ x

pub the_single : {X F : Type 0} (P : X → Type 0) (f : F) → ((x y : X) → P x → P y → y ≡ x) → Single (the P f)
the_single P f once = record { same = once }

pub need_single : {F : Type 0} (P : Type 0) (f : F) → Single (need P f)
need_single P f = record { same = λ x y h k. refl }

pub done_single : {X F : Type 0} (x : X) → Single (done {F = F} x)
done_single x = record { same = λ y z h k. k ∙ sym h }

pub then_single : {X Y F : Type 0} (t : Table X F) (next : X → Table Y F) → Single t → ((x : X) → Single (next x)) → Single (t >>= next)
then_single {X = X} t next s each = record { same = λ y z h k. (each h.0).same y z h.2 (subst (λ (x : X). (next x).holds z) (s.same h.0 k.0 h.1 k.1) k.2) }

pub named_single : {X F G : Type 0} (g : F → G) (t : Table X F) → Single t → Single (named g t)
named_single g t s = record { same = s.same }
