use Rattle.std.proofs.lemmas.Result.{IfOk-weaker}
use Rattle.picky_contract.specs.laws.Tables.{found, complete}
use Rattle.picky_jose.specs.Faults.{jws_fault}
use Rattle.picky_jose.specs.Views.{jws_content}
use Rattle.picky_jose.specs.Verified.{verified_table}
use Rattle.picky_jose.specs.laws.Verified.{verified_exact, to_verified, from_verified}
use Rattle.picky_jose.proofs.jws.Jws.decode.Goals as goal

pub returns-clause-found : goal.returns-clause-found
returns-clause-found g c =
    let signs = g.P.KeyProvider.signs c.args.provider.now in
    let key = c.args.public_key.now in
    let token = c.args.encoded_token.now in
    IfOk-weaker c.read_verified.result _ _ (λ x h. to_verified signs key token (jws_content x) h)
    (found jws_content jws_fault c.read_verified.result (verified_table signs key token) (verified_exact signs key token) c.read_verified.ensures)

pub returns-clause-every : goal.returns-clause-every
returns-clause-every g c = λ x v.
    let signs = g.P.KeyProvider.signs c.args.provider.now in
    let key = c.args.public_key.now in
    let token = c.args.encoded_token.now in
    complete jws_content jws_fault c.read_verified.result (verified_table signs key token) (verified_exact signs key token) c.read_verified.ensures x (from_verified signs key token x v)
