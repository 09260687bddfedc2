use Rattle.picky_contract.specs.laws.Tables.{leads_meets}
use Rattle.picky_jose.specs.Faults.{jws_fault}
use Rattle.picky_jose.specs.Signatures.{vouched_rows, signed_table}
use Rattle.picky_jose.specs.Token.{halves_view}
use Rattle.picky_jose.specs.laws.Vouching.{decoded_leads}
use Rattle.picky_jose.proofs.signature.check_decoded.Goals as goal

pub returns : goal.returns
returns g c =
    let signs = g.P.KeyProvider.signs c.args.provider.now in
    let key = c.args.public_key.now in
    let signature = c.args.signature.now in
    let halves = halves_view (c.in-Some.signed, c.in-Some.field-0-1) in
    let told = rw c.as_bytes.ensures.value at c.check_vouched.ensures in
    leads_meets (λ u. u) jws_fault c.check_vouched.result (vouched_rows signs key c.args.alg halves.signed signature) (signed_table signs key c.args.alg c.args.token.now)
    (decoded_leads signs key c.args.alg c.args.token.now signature halves c.requires c.in-Some.ensures.0) told
