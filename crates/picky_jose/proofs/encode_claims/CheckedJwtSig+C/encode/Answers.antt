use Rattle.std.proofs.Common.{string_bytes}
use Rattle.std.proofs.lemmas.Result.{IfOk-weaker}
use Rattle.picky_contract.specs.laws.Tables.{found, complete}
use Rattle.picky_jws_header.specs.Header.{in_order}
use Rattle.picky_jws_header.specs.Views.{header_view}
use Rattle.picky_jose.specs.Faults.{jwt_fault}
use Rattle.picky_jose.specs.Encoding.{claims_encoding_table}
use Rattle.picky_jose.specs.laws.Encoding.{claims_encoding_exact, to_claims_token, from_claims_token, claims_verify}
use Rattle.picky_jose.proofs.Giving.{signs_under}
use Rattle.picky_jose.proofs.encode_claims.CheckedJwtSig+C.encode.Goals as goal

pub returns-clause-found : goal.returns-clause-found
returns-clause-found g c =
    let sign = g.P.KeyProvider.sign_of c.args.provider.now c.args.private_key.now in
    let h = header_view c.args.self.header in
    let claims = g.C.ToClaims.claims_tree c.args.self.state.claims in
    IfOk-weaker c.token_of_claims.result _ _ (λ s t. to_claims_token sign h claims (string_bytes s) t)
    (found string_bytes jwt_fault c.token_of_claims.result (claims_encoding_table sign h claims) (claims_encoding_exact sign h claims) c.token_of_claims.ensures.first)

pub returns-clause-every : goal.returns-clause-every
returns-clause-every g c = λ text t.
    let sign = g.P.KeyProvider.sign_of c.args.provider.now c.args.private_key.now in
    let h = header_view c.args.self.header in
    let claims = g.C.ToClaims.claims_tree c.args.self.state.claims in
    complete string_bytes jwt_fault c.token_of_claims.result (claims_encoding_table sign h claims) (claims_encoding_exact sign h claims) c.token_of_claims.ensures.first text
    (from_claims_token sign h claims text t)

pub returns-clause-verifies : goal.returns-clause-verifies
returns-clause-verifies g c =
    let p = c.args.provider.now in
    let k = c.args.private_key.now in
    let signs = g.P.KeyProvider.signs p in
    let sign = g.P.KeyProvider.sign_of p k in
    let h = header_view c.args.self.header in
    let claims = g.C.ToClaims.claims_tree c.args.self.state.claims in
    IfOk-weaker c.token_of_claims.result _ _
    (λ s t. λ key public. claims_verify signs key sign (signs_under signs sign (g.P.KeyProvider.public_of p k) key public (g.met.P.KeyProvider.sign_signs p k)) (string_bytes s) (in_order h) claims t)
    c.token_of_claims.ensures.reads_back
