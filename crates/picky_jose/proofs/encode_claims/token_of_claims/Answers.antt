use Rattle.std.proofs.Common.{string_bytes}
use Rattle.std.proofs.lemmas.Result.{IfOk-weaker}
use Rattle.picky_jose.specs.laws.Encoding.{claims_free}
use Rattle.picky_jose.proofs.encode_claims.token_of_claims.Goals as goal

pub returns-clause-reads_back : goal.returns-clause-reads_back
returns-clause-reads_back g c =
    let claims = g.C.ToClaims.claims_tree c.args.claims.now in
    let payload = string_bytes c.in_ok-payload.payload in
    let reads = rw c.as_bytes.ensures.value at c.token_of_payload.ensures.reads_back in
    IfOk-weaker c.token_of_payload.result _ _
    (λ s h. record { payload = payload; read = c.in_ok-payload.ensures.reads_back; free = claims_free claims payload c.in_ok-payload.ensures.first; holds = h }) reads
