use Rattle.std.proofs.Common.{subst}
use Rattle.picky_http.specs.Faults.{http_fault}
use Rattle.picky_http.specs.Lines.{request_of}
use Rattle.picky_http.specs.Reading.{Reading, reading_of}
use Rattle.uses.specs.Requests.{IsSignatureOf}
use Rattle.uses.proofs.Refusals.{wants_memory}
use Rattle.uses.proofs.requests.signed_request.Goals as goal

pub returns-in_err-signature-clause-every : goal.returns-in_err-signature-clause-every
returns-in_err-signature-clause-every g c r reads holds = wants_memory reading_of http_fault c.from_residual.result c.in_err-signature.field-0.0 r c.from_residual.ensures.1 (c.in_err-signature.ensures.every r reads)

pub returns-in_err-check-clause-every : goal.returns-in_err-check-clause-every
returns-in_err-check-clause-every g c r reads holds =
    let asked = request_of g.Q.HttpRequest.answer g.Q.HttpRequest.method g.Q.HttpRequest.target c.args.request.now in
    let same = c.in_ok-signature.ensures.every r reads in
    let of_read = subst (λ (x : Reading). IsSignatureOf (g.P.KeyProvider.signs c.args.provider.now) c.args.key.now c.args.algorithm c.args.now asked x) same holds in
    wants_memory reading_of http_fault c.from_residual-in_err-check.result c.in_err-check.field-0.0 r c.from_residual-in_err-check.ensures.1 (c.in_err-check.ensures.every of_read)
