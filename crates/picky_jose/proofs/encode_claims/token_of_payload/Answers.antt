use Rattle.std.proofs.Common.{string_bytes}
use Rattle.picky_contract.specs.Refusals.{named}
use Rattle.picky_contract.specs.laws.Tables.{err_meets, named_refuses}
use Rattle.picky_jws_header.specs.Views.{header_view}
use Rattle.picky_jose.specs.Faults.{jws, jws_fault, jwt_fault, jwt_error_of}
use Rattle.picky_jose.specs.Encoding.{encoding_table, content}
use Rattle.picky_jose.specs.laws.Faults.{outer}
use Rattle.picky_jose.proofs.encode_claims.token_of_payload.Goals as goal

pub returns-in_err-token-clause-first : goal.returns-in_err-token-clause-first
returns-in_err-token-clause-first g c =
    let sign = g.P.KeyProvider.sign_of c.args.provider.now c.args.private_key.now in
    let table = encoding_table sign (content (header_view c.args.header.now) c.args.payload.now) in
    let e = c.in_err-token.field-0.0 in
    err_meets string_bytes jwt_fault c.from_residual.result (jwt_error_of e) (named jws table) c.from_residual.ensures.1
    (rw (outer e) (named_refuses jws table (jws_fault e) c.in_err-token.ensures.first))
