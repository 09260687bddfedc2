use Rattle.std.proofs.Common.{inl, inr, sym, ◌∙◌, rules}
use Rattle.std.specs.Prelude.{IsTrue}
use Rattle.serde_json.specs.View.{view}
use Rattle.picky_contract.specs.laws.Tables.{err_meets, up}
use Rattle.picky_jose.specs.Claims.{claims_table}
use Rattle.picky_jose.specs.Faults.{jwt_fault}
use Rattle.picky_jose.specs.Validator.{can_judge}
use Rattle.picky_jose.proofs.jwt.checked_claims.Goals as goal

pub returns-in_err-check_dates : goal.returns-in_err-check_dates
unfolding claims_table
returns-in_err-check_dates c =
    let v = c.args.validator.now in
    let e = c.in_err-check_dates.field-0.0 in
    let can : IsTrue (can_judge v.date v.nbf v.exp) = search rules in
    let tree = rw c.in-Some.is at c.in_ok-claims.ensures in
    let free = sym c.has_float.ensures ∙ c.if-has_float.false in
    err_meets view jwt_fault c.from_residual-in_err-check_dates.result e (claims_table v c.args.payload.now) c.from_residual-in_err-check_dates.ensures.1
    (up (jwt_fault e) _ _ (λ f k. inr (tt, can, inr (view c.in-Some.claims, tree, inr (tt, free, inl k)))) c.in_err-check_dates.ensures.first)
