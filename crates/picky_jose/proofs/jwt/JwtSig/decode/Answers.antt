use Rattle.std.proofs.lemmas.Result.{IfOk-weaker}
use Rattle.picky_contract.specs.Refusals.{named}
use Rattle.picky_contract.specs.laws.Tables.{found, complete, named_exact}
use Rattle.picky_jose.specs.Faults.{jws, jwt_fault}
use Rattle.picky_jose.specs.Views.{unchecked_content}
use Rattle.picky_jose.specs.Verified.{verified_table}
use Rattle.picky_jose.specs.laws.Verified.{verified_exact, to_verified, from_verified}
use Rattle.picky_jose.proofs.jwt.JwtSig.decode.Goals as goal

pub returns-clause-found : goal.returns-clause-found
returns-clause-found g c =
    let signs = g.P.KeyProvider.signs c.args.provider.now in
    let key = c.args.public_key.now in
    let token = c.args.encoded_token.now in
    IfOk-weaker c.read_verified.result _ _ (λ x h. to_verified signs key token (unchecked_content x) h)
    (found unchecked_content jwt_fault c.read_verified.result (named jws (verified_table signs key token)) (named_exact jws _ (verified_exact signs key token)) c.read_verified.ensures)

pub returns-clause-every : goal.returns-clause-every
returns-clause-every g c = λ x v.
    let signs = g.P.KeyProvider.signs c.args.provider.now in
    let key = c.args.public_key.now in
    let token = c.args.encoded_token.now in
    complete unchecked_content jwt_fault c.read_verified.result (named jws (verified_table signs key token)) (named_exact jws _ (verified_exact signs key token)) c.read_verified.ensures x (from_verified signs key token x v)
