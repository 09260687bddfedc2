use Rattle.std.proofs.lemmas.Result.{IfOk-weaker}
use Rattle.picky_contract.specs.laws.Tables.{found, complete}
use Rattle.picky_http.specs.Lines.{request_of}
use Rattle.picky_gate.specs.Refusals.{cause_of, admission_of, admits_table}
use Rattle.picky_gate.proofs.Admitting.{admits_exact, to_admissible, from_admissible}
use Rattle.picky_gate.proofs.admission.admit.Goals as goal

pub returns-clause-found : goal.returns-clause-found
returns-clause-found g c =
    let signs = g.P.KeyProvider.signs c.args.provider.now in
    let ring = c.args.ring.now in
    let policy = c.args.policy.now in
    let asked = request_of g.Q.HttpRequest.answer g.Q.HttpRequest.method g.Q.HttpRequest.target c.args.request.now in
    let text = c.args.authorization.now in
    IfOk-weaker c.decide.result _ _ (λ a. to_admissible signs ring policy asked text (admission_of a))
    (found admission_of cause_of c.decide.result (admits_table signs ring policy asked text) (admits_exact signs ring policy asked text) c.decide.ensures)

pub returns-clause-every : goal.returns-clause-every
returns-clause-every g c = λ a h.
    let signs = g.P.KeyProvider.signs c.args.provider.now in
    let ring = c.args.ring.now in
    let policy = c.args.policy.now in
    let asked = request_of g.Q.HttpRequest.answer g.Q.HttpRequest.method g.Q.HttpRequest.target c.args.request.now in
    let text = c.args.authorization.now in
    complete admission_of cause_of c.decide.result (admits_table signs ring policy asked text) (admits_exact signs ring policy asked text) c.decide.ensures a (from_admissible signs ring policy asked text a h)
