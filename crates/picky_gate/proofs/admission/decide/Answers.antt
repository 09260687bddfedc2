use Rattle.std.proofs.Common.{inl, refl}
use Rattle.picky_contract.specs.Refusals.{the}
use Rattle.picky_contract.specs.laws.Tables.{then_meets}
use Rattle.picky_http.specs.Lines.{request_of}
use Rattle.picky_gate.specs.Refusals.{admission_of, cause_of, no_scheme, scheme_table, admits_table}
use Rattle.picky_gate.specs.Scheme.{bearer, header_text, IsScheme}
use Rattle.picky_gate.proofs.admission.decide.Goals as goal

pub returns-in_default : goal.returns-in_default
unfolding admits_table
returns-in_default g c = inl (refl, c.in_default.ensures)

pub returns-in-Token : goal.returns-in-Token
unfolding admits_table
returns-in-Token g c =
    let reads = rw c.in-Token.is at c.in-Some.ensures in
    let asked = request_of g.Q.HttpRequest.answer g.Q.HttpRequest.method g.Q.HttpRequest.target c.args.request.now in
    then_meets admission_of cause_of c.decide_token.result (the (IsScheme c.args.authorization.now) no_scheme) (scheme_table (g.P.KeyProvider.signs c.args.provider.now) c.args.ring.now c.args.policy.now asked) (bearer c.in-Token.text.now) reads c.decide_token.ensures

pub returns-in-Header : goal.returns-in-Header
unfolding admits_table
returns-in-Header g c =
    let reads = rw c.in-Header.is at c.in-Some.ensures in
    let asked = request_of g.Q.HttpRequest.answer g.Q.HttpRequest.method g.Q.HttpRequest.target c.args.request.now in
    then_meets admission_of cause_of c.decide_header.result (the (IsScheme c.args.authorization.now) no_scheme) (scheme_table (g.P.KeyProvider.signs c.args.provider.now) c.args.ring.now c.args.policy.now asked) (header_text c.in-Header.text.now) reads c.decide_header.ensures
