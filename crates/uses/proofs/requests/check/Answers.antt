use Rattle.picky_http.specs.Reading.{reading_of}
use Rattle.picky_http.specs.Verifying.{Using}
use Rattle.uses.proofs.Verified.{set_up, accepted, only_memory}
use Rattle.uses.proofs.requests.check.Goals as goal

pub returns-clause-found : goal.returns-clause-found
returns-clause-found g c =
    let r = reading_of c.args.signature.now in
    let m : Using = record { key = c.args.key.now; algorithm = c.args.algorithm } in
    let set = set_up _ _ _ _ _ r m c.args.request.now c.args.now c.verifier-verifier.ensures c.now.ensures c.leeway.ensures c.signature_method.ensures c.generate_signing_string_using_http_request.ensures in
    accepted (g.P.KeyProvider.signs c.args.provider.now) g.Q.HttpRequest.answer g.Q.HttpRequest.method g.Q.HttpRequest.target c.args.key.now c.args.algorithm c.args.now c.args.request.now r _ c.verify.result set c.verify.ensures.first

pub returns-clause-every : goal.returns-clause-every
returns-clause-every g c h =
    let r = reading_of c.args.signature.now in
    let m : Using = record { key = c.args.key.now; algorithm = c.args.algorithm } in
    let set = set_up _ _ _ _ _ r m c.args.request.now c.args.now c.verifier-verifier.ensures c.now.ensures c.leeway.ensures c.signature_method.ensures c.generate_signing_string_using_http_request.ensures in
    only_memory (g.P.KeyProvider.signs c.args.provider.now) g.Q.HttpRequest.answer g.Q.HttpRequest.method g.Q.HttpRequest.target c.args.key.now c.args.algorithm c.args.now c.args.request.now r _ c.verify.result set c.verify.ensures.first h
