use Rattle.picky_http.specs.Building.{draft_of, build_table}
use Rattle.picky_http.specs.Faults.{http_fault}
use Rattle.picky_http.specs.Reading.{reading_of}
use Rattle.picky_http.specs.laws.Building.{build_exact, to_built, from_built, built_accepted}
use Rattle.picky_http.proofs.Building.{holds_so_memory, never_missing}
use Rattle.picky_http.proofs.builder.HttpSignatureBuilder.build.Goals as goal

pub returns-in-Err-clause-every : goal.returns-in-Err-clause-every
returns-in-Err-clause-every g c = λ r h.
    let sign_of = g.P.KeyProvider.sign_of c.args.provider.now in
    let request = g.Q.HttpRequest in
    let d = draft_of c.args.self.now in
    holds_so_memory (build_table sign_of request.answer request.method request.target d) (build_exact sign_of request.answer request.method request.target d)
    (http_fault c.in-Err.e) c.in-Err.ensures r (from_built sign_of request.answer request.method request.target d r h)

pub returns-in-Err-clause-numbered : goal.returns-in-Err-clause-numbered
returns-in-Err-clause-numbered g c = λ p e.
    let sign_of = g.P.KeyProvider.sign_of c.args.provider.now in
    let request = g.Q.HttpRequest in
    never_missing sign_of request.answer request.method request.target (draft_of c.args.self.now) (http_fault c.in-Err.e) p c.args.self.now.numbered c.in-Err.ensures e

pub returns-in-Ok-clause-found : goal.returns-in-Ok-clause-found
returns-in-Ok-clause-found g c =
    let sign_of = g.P.KeyProvider.sign_of c.args.provider.now in
    let request = g.Q.HttpRequest in
    let d = draft_of c.args.self.now in
    let r = reading_of c.in-Ok.signature in
    to_built sign_of request.answer request.method request.target d r
    ((build_exact sign_of request.answer request.method request.target d).holds r c.in-Ok.ensures)

pub returns-in-Ok-clause-every : goal.returns-in-Ok-clause-every
returns-in-Ok-clause-every g c = λ r h.
    let sign_of = g.P.KeyProvider.sign_of c.args.provider.now in
    let request = g.Q.HttpRequest in
    let d = draft_of c.args.self.now in
    (build_exact sign_of request.answer request.method request.target d).one (reading_of c.in-Ok.signature) r c.in-Ok.ensures
    (from_built sign_of request.answer request.method request.target d r h)

pub returns-in-Ok-clause-accepted : goal.returns-in-Ok-clause-accepted
returns-in-Ok-clause-accepted g c =
    let provider = c.args.provider.now in
    let keys = g.P.KeyProvider in
    let request = g.Q.HttpRequest in
    let d = draft_of c.args.self.now in
    let r = reading_of c.in-Ok.signature in
    built_accepted (keys.signs provider) (keys.public_of provider) (keys.sign_of provider) request.answer request.method request.target d r
    (record { in_family = g.met.P.KeyProvider.signs_in_family provider; signs_own = g.met.P.KeyProvider.sign_signs provider })
    (to_built (keys.sign_of provider) request.answer request.method request.target d r
    ((build_exact (keys.sign_of provider) request.answer request.method request.target d).holds r c.in-Ok.ensures))
