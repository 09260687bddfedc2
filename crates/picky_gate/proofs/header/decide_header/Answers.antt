use Rattle.std.proofs.Common.{List, ℕ, Some, inl, inr, refl, subst}
use Rattle.picky_contract.specs.Refusals.{the}
use Rattle.picky_http.specs.Faults.{http_fault}
use Rattle.picky_http.specs.Lines.{request_of}
use Rattle.picky_http.specs.Reading.{reading_of}
use Rattle.picky_gate.specs.Admissible.{NamedKey, IsKeyUnder}
use Rattle.picky_gate.specs.Refusals.{cause_of, no_key, header_table}
use Rattle.picky_gate.specs.Seen.{key_view}
use Rattle.picky_gate.proofs.Checking.{header_refuses}
use Rattle.picky_gate.proofs.header.decide_header.Goals as goal

pub returns-in-Err-check_header : goal.returns-in-Err-check_header
returns-in-Err-check_header g c =
    let asked = request_of g.Q.HttpRequest.answer g.Q.HttpRequest.method g.Q.HttpRequest.target c.args.request.now in
    let key = key_view (c.in-Some.name, c.in-Some.key, c.in-Some.algorithm) in
    let named = subst (λ (n : List ℕ). (the (IsKeyUnder c.args.ring.now (Some n)) no_key).gives key) c.deref.ensures c.in-Some.ensures in
    header_refuses (g.P.KeyProvider.signs c.args.provider.now) c.args.ring.now c.args.policy.now asked c.args.text.now (reading_of c.in-Ok.signature) key (http_fault c.in-Err-check_header.error) (cause_of c.from-in-Err-check_header.result)
    c.in-Ok.ensures.first named c.in-Err-check_header.ensures c.from-in-Err-check_header.ensures

pub returns-in_default : goal.returns-in_default
unfolding header_table
returns-in_default g c =
    let none = subst (λ (n : List ℕ). (y : NamedKey) → ¬ (IsKeyUnder c.args.ring.now (Some n) y)) c.deref.ensures c.in_default.ensures in
    inr (reading_of c.in-Ok.signature, c.in-Ok.ensures.first, inl (refl, none))
