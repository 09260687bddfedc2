use Rattle.std.proofs.Common.{string_bytes}
use Rattle.std.proofs.lemmas.Result.{IfOk-weaker}
use Rattle.picky_contract.specs.Refusals.{named}
use Rattle.picky_contract.specs.laws.Tables.{found, complete, named_exact}
use Rattle.picky_jose.specs.Faults.{jws, jwt_fault}
use Rattle.picky_jose.specs.Views.{unchecked_content}
use Rattle.picky_jose.specs.Encoding.{encoding_table, as_written}
use Rattle.picky_jose.specs.laws.Encoding.{encoding_exact, to_token, from_token, content_verifies}
use Rattle.picky_jose.proofs.Giving.{signs_under}
use Rattle.picky_jose.proofs.encode_claims.JwtSig.encode.Goals as goal

pub returns-clause-found : goal.returns-clause-found
returns-clause-found g c =
    let sign = g.P.KeyProvider.sign_of c.args.provider.now c.args.private_key.now in
    let x = unchecked_content c.args.self in
    let first = rw c.deref.ensures.value at c.token_of_payload.ensures.first in
    IfOk-weaker c.token_of_payload.result _ _ (λ s h. to_token sign x (string_bytes s) h)
    (found string_bytes jwt_fault c.token_of_payload.result (named jws (encoding_table sign x)) (named_exact jws _ (encoding_exact sign x)) first)

pub returns-clause-every : goal.returns-clause-every
returns-clause-every g c = λ text t.
    let sign = g.P.KeyProvider.sign_of c.args.provider.now c.args.private_key.now in
    let x = unchecked_content c.args.self in
    let first = rw c.deref.ensures.value at c.token_of_payload.ensures.first in
    complete string_bytes jwt_fault c.token_of_payload.result (named jws (encoding_table sign x)) (named_exact jws _ (encoding_exact sign x)) first text (from_token sign x text t)

pub returns-clause-verifies : goal.returns-clause-verifies
returns-clause-verifies g c =
    let p = c.args.provider.now in
    let k = c.args.private_key.now in
    let signs = g.P.KeyProvider.signs p in
    let sign = g.P.KeyProvider.sign_of p k in
    let x = unchecked_content c.args.self in
    let reads = rw c.deref.ensures.value at c.token_of_payload.ensures.reads_back in
    IfOk-weaker c.token_of_payload.result _ _
    (λ s h. λ key public. content_verifies signs key sign (signs_under signs sign (g.P.KeyProvider.public_of p k) key public (g.met.P.KeyProvider.sign_signs p k)) (string_bytes s) (as_written x) h) reads

pub returns-clause-reads_back : goal.returns-clause-reads_back
returns-clause-reads_back g c = rw c.deref.ensures.value at c.token_of_payload.ensures.reads_back
