use Rattle.std.proofs.lemmas.Result.{IfOk-weaker}
use Rattle.picky_contract.specs.laws.Tables.{found, complete}
use Rattle.picky_jose.specs.Claims.{told_table}
use Rattle.picky_jose.specs.Faults.{jwt_fault}
use Rattle.picky_jose.specs.Views.{payload_of}
use Rattle.picky_jose.specs.laws.Claims.{told_exact, to_claims, from_claims}
use Rattle.picky_jose.proofs.jwt.Jwt+H+UncheckedState.validate.Goals as goal

pub returns-clause-found : goal.returns-clause-found
returns-clause-found g c =
    let tells = g.C.FromClaims.TellsClaims in
    let payload = payload_of c.args.self in
    IfOk-weaker c.told.result _ _ (λ x h. to_claims tells c.args.validator.now payload (g.C.FromClaims.claims_view x.state.claims) h)
    (found (λ x. g.C.FromClaims.claims_view x.state.claims) jwt_fault c.told.result (told_table tells c.args.validator.now payload) (told_exact tells c.args.validator.now payload) c.told.ensures.first)

pub returns-clause-every : goal.returns-clause-every
returns-clause-every g c = λ y k.
    let tells = g.C.FromClaims.TellsClaims in
    let payload = payload_of c.args.self in
    complete (λ x. g.C.FromClaims.claims_view x.state.claims) jwt_fault c.told.result (told_table tells c.args.validator.now payload) (told_exact tells c.args.validator.now payload) c.told.ensures.first y
    (from_claims tells c.args.validator.now payload y k)
