-- The rows of dates say one thing.
use Rattle.std.proofs.Common.{Option, Some, None, refl}
use Rattle.std.specs.Prelude.{codes, IsTrue}
use Rattle.serde_json.specs.Data.{Data}
use Rattle.picky_contract.specs.laws.Tables.{Exact, Single, the_exact, need_exact, done_exact, then_exact}
use Rattle.picky_json.specs.Tree.{member}
use Rattle.picky_jose.specs.declared.date.JwtDate.{JwtDate}
use Rattle.picky_jose.specs.declared.date.ClaimCheck.{ClaimCheck}
use Rattle.picky_jose.specs.declared.date.ClaimCheck.TheVariants.{Ignored, Optional, Required}
use Rattle.picky_jose.specs.Claims.{IsInteger, IsThere, start_table, end_table, nbf_table, exp_table, dated_table, no_date, rows_at, dates_table}
use Rattle.picky_jose.specs.Dates.{IsAtOrAfterStart, IsBeforeEnd}
use Rattle.picky_jose.specs.Faults.{no_integer, missing, not_yet_valid, expired}
use Rattle.picky_jose.specs.Validator.{Validator, can_judge}

module _ (d : JwtDate) where
  start_exact : (o : Option Data) → Exact (start_table d o)
  start_exact None = done_exact tt
  start_exact (Some t) = then_exact _ _ (the_exact (IsInteger t) (no_integer (codes "nbf"))) (λ nbf. need_exact (IsAtOrAfterStart d nbf) (not_yet_valid nbf d))

  end_exact : (o : Option Data) → Exact (end_table d o)
  end_exact None = done_exact tt
  end_exact (Some t) = then_exact _ _ (the_exact (IsInteger t) (no_integer (codes "exp"))) (λ exp. need_exact (IsBeforeEnd d exp) (expired exp d))

  nbf_exact : (check : ClaimCheck) (o : Option Data) → Exact (nbf_table d check o)
  nbf_exact Ignored o = done_exact tt
  nbf_exact Optional o = start_exact o
  nbf_exact Required o = then_exact _ _ (need_exact (IsThere o) (missing (codes "nbf"))) (λ _. start_exact o)

  exp_exact : (check : ClaimCheck) (o : Option Data) → Exact (exp_table d check o)
  exp_exact Ignored o = done_exact tt
  exp_exact Optional o = end_exact o
  exp_exact Required o = then_exact _ _ (need_exact (IsThere o) (missing (codes "exp"))) (λ _. end_exact o)

  dated_exact : (v : Validator) (t : Data) → Exact (dated_table v d t)
  unfolding dated_table
  dated_exact v t = then_exact _ _ (nbf_exact v.nbf (member (codes "nbf") t)) (λ _. exp_exact v.exp (member (codes "exp") t))

rows_exact : (v : Validator) (t : Data) (o : Option JwtDate) → Exact (rows_at v t o)
rows_exact v t None = need_exact (IsTrue (can_judge None v.nbf v.exp)) no_date
rows_exact v t (Some d) = dated_exact d v t

pub dates_exact : (v : Validator) (t : Data) → Exact (dates_table v t)
dates_exact v t = rows_exact v t v.date

-- they have one value
pub dates_single : (v : Validator) (t : Data) → Single (dates_table v t)
dates_single v t = record { same = λ x y h k. refl }
