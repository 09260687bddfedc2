use Rattle.picky_http.specs.Reading.{reading_of}
use Rattle.picky_http.specs.Verifying.{Using}
use Rattle.picky_gate.proofs.Checking.{set_up, at_moment, at_none, checked}
use Rattle.picky_gate.proofs.header.check_header.Goals as goal

pub returns-in-Some : goal.returns-in-Some
returns-in-Some g c =
    let r = reading_of c.args.signature.now in
    let m : Using = record { key = c.args.key.now; algorithm = c.args.algorithm } in
    let leeway = c.args.policy.now.leeway in
    let set = set_up _ _ _ _ r m c.args.request.now leeway c.verifier-verifier.ensures c.signature_method.ensures c.generate_signing_string_using_http_request.ensures c.leeway.ensures in
    let timed = at_moment _ _ r m c.args.request.now leeway c.args.policy.now.now c.in-Some.now set c.now.ensures c.in-Some.is in
    checked (g.P.KeyProvider.signs c.args.provider.now) g.Q.HttpRequest.answer g.Q.HttpRequest.method g.Q.HttpRequest.target _ r c.args.key.now c.args.algorithm c.args.request.now leeway c.args.policy.now.now c.verify.result
    timed c.verify.ensures.first

pub returns-in-None : goal.returns-in-None
returns-in-None g c =
    let r = reading_of c.args.signature.now in
    let m : Using = record { key = c.args.key.now; algorithm = c.args.algorithm } in
    let leeway = c.args.policy.now.leeway in
    let set = set_up _ _ _ _ r m c.args.request.now leeway c.verifier-verifier.ensures c.signature_method.ensures c.generate_signing_string_using_http_request.ensures c.leeway.ensures in
    let timed = at_none _ r m c.args.request.now leeway c.args.policy.now.now set c.in-None.is in
    checked (g.P.KeyProvider.signs c.args.provider.now) g.Q.HttpRequest.answer g.Q.HttpRequest.method g.Q.HttpRequest.target _ r c.args.key.now c.args.algorithm c.args.request.now leeway c.args.policy.now.now c.verify-in-None.result
    timed c.verify-in-None.ensures.first
