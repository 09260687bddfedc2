use Rattle.picky_contract.specs.Refusals.{named}
use Rattle.picky_contract.specs.laws.Tables.{err_meets, named_refuses}
use Rattle.picky_jose.specs.Faults.{jws, jws_fault, jwt_fault, jwt_error_of}
use Rattle.picky_jose.specs.Views.{unchecked_content}
use Rattle.picky_jose.specs.Verified.{verified_table}
use Rattle.picky_jose.specs.laws.Faults.{outer}
use Rattle.picky_jose.proofs.jwt.JwtSig.read_verified.Goals as goal

pub returns-in_err-token : goal.returns-in_err-token
returns-in_err-token g c =
    let table = verified_table (g.P.KeyProvider.signs c.args.provider.now) c.args.public_key.now c.args.encoded_token.now in
    let e = c.in_err-token.field-0.0 in
    err_meets unchecked_content jwt_fault c.from_residual.result (jwt_error_of e) (named jws table) c.from_residual.ensures.1
    (rw (outer e) (named_refuses jws table (jws_fault e) c.in_err-token.ensures.first))
