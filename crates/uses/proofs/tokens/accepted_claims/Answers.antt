use Rattle.std.proofs.Common.{◌≡◌, List, ℕ, IfSome, ap, ◌∙◌, subst, to_z-of_z}
use Rattle.serde_json.specs.View.{view}
use Rattle.picky_contract.specs.laws.Tables.{err_meets, up}
use Rattle.picky_jose.specs.Claims.{claims_table}
use Rattle.picky_jose.specs.Faults.{jws_fault, jwt_fault, jwt_error_of}
use Rattle.picky_jose.specs.Refusals.{reading_of}
use Rattle.picky_jose.specs.Signatures.{signed_table}
use Rattle.picky_jose.specs.Validator.{Validator, lenient}
use Rattle.picky_jose.specs.Views.{Content, payload_of}
use Rattle.picky_jose.specs.laws.Claims.{itself_leads}
use Rattle.uses.specs.Accepted.{date_at, accepted_table}
use Rattle.uses.proofs.Steps.{not_read, not_signed, not_dated, all_hold, accepted}
use Rattle.uses.proofs.tokens.accepted_claims.Goals as goal

pub returns-in_err-token-clause-first : goal.returns-in_err-token-clause-first
returns-in_err-token-clause-first g c =
    let signs = g.P.KeyProvider.signs c.args.provider.now in
    err_meets view jwt_fault c.from_residual.result (jwt_error_of c.in_err-token.field-0.0) (accepted_table signs c.args.key.now (date_at c.args.now) c.args.text.now) c.from_residual.ensures.1
    (not_read signs c.args.key.now (date_at c.args.now) c.args.text.now c.in_err-token.field-0.0 c.in_err-token.ensures.first)

pub returns-in_err-token-2-clause-first : goal.returns-in_err-token-2-clause-first
returns-in_err-token-2-clause-first g c =
    let signs = g.P.KeyProvider.signs c.args.provider.now in
    let key = c.args.key.now in
    let x = reading_of c.in_ok-token.token in
    let e = c.in_err-token-2.field-0.0 in
    let due = subst (λ (t : List ℕ). IfSome (jws_fault e) (signed_table signs key x.header.alg t).refuses) c.in_ok-token.ensures.text c.in_err-token-2.ensures.first in
    err_meets view jwt_fault c.from_residual-in_err-token-2.result (jwt_error_of e) (accepted_table signs key (date_at c.args.now) c.args.text.now) c.from_residual-in_err-token-2.ensures.1
    (not_signed signs key (date_at c.args.now) c.args.text.now x e c.in_ok-token.ensures.first due)

pub returns-in_err-token-3-clause-first : goal.returns-in_err-token-3-clause-first
returns-in_err-token-3-clause-first g c =
    let signs = g.P.KeyProvider.signs c.args.provider.now in
    let key = c.args.key.now in
    let x = reading_of c.in_ok-token.token in
    let e = c.in_err-token-3.field-0.0 in
    let signed = subst (λ (t : List ℕ). (signed_table signs key x.header.alg t).gives tt) c.in_ok-token.ensures.text c.in_ok-token-2.ensures.first in
    let date : c.lenient.result ≡ lenient (date_at c.args.now) = c.lenient.ensures ∙ ap lenient (c.new_with_leeway-date.ensures ∙ ap date_at (to_z-of_z c.ranges.now)) in
    let payload = ap (λ (k : Content). k.payload) (c.from.ensures ∙ c.in_ok-token-2.ensures.content) in
    let paid = subst (λ (p : List ℕ). IfSome (jwt_fault e) (claims_table c.lenient.result p).refuses) payload (up (jwt_fault e) _ _ (itself_leads c.lenient.result (payload_of c.from.result)).refuses c.in_err-token-3.ensures.first) in
    let due = subst (λ (v : Validator). IfSome (jwt_fault e) (claims_table v x.payload).refuses) date paid in
    err_meets view jwt_fault c.from_residual-in_err-token-3.result e (accepted_table signs key (date_at c.args.now) c.args.text.now) c.from_residual-in_err-token-3.ensures.1
    (not_dated signs key (date_at c.args.now) c.args.text.now x e c.in_ok-token.ensures.first signed due)

pub returns-clause-found : goal.returns-clause-found
returns-clause-found g c =
    let signs = g.P.KeyProvider.signs c.args.provider.now in
    let key = c.args.key.now in
    let x = reading_of c.in_ok-token.token in
    let claims = view c.in_ok-token-3.token.state.claims in
    let signed = subst (λ (t : List ℕ). (signed_table signs key x.header.alg t).gives tt) c.in_ok-token.ensures.text c.in_ok-token-2.ensures.first in
    let date : c.lenient.result ≡ lenient (date_at c.args.now) = c.lenient.ensures ∙ ap lenient (c.new_with_leeway-date.ensures ∙ ap date_at (to_z-of_z c.ranges.now)) in
    let payload = ap (λ (k : Content). k.payload) (c.from.ensures ∙ c.in_ok-token-2.ensures.content) in
    let paid = subst (λ (p : List ℕ). (claims_table c.lenient.result p).gives claims) payload ((itself_leads c.lenient.result (payload_of c.from.result)).gives claims c.in_ok-token-3.ensures.first) in
    let gives = subst (λ (v : Validator). (claims_table v x.payload).gives claims) date paid in
    accepted signs key (date_at c.args.now) c.args.text.now x claims c.in_ok-token.ensures.found signed gives

pub returns-clause-first : goal.returns-clause-first
returns-clause-first g c =
    let signs = g.P.KeyProvider.signs c.args.provider.now in
    let key = c.args.key.now in
    let x = reading_of c.in_ok-token.token in
    let claims = view c.in_ok-token-3.token.state.claims in
    let signed = subst (λ (t : List ℕ). (signed_table signs key x.header.alg t).gives tt) c.in_ok-token.ensures.text c.in_ok-token-2.ensures.first in
    let date : c.lenient.result ≡ lenient (date_at c.args.now) = c.lenient.ensures ∙ ap lenient (c.new_with_leeway-date.ensures ∙ ap date_at (to_z-of_z c.ranges.now)) in
    let payload = ap (λ (k : Content). k.payload) (c.from.ensures ∙ c.in_ok-token-2.ensures.content) in
    let paid = subst (λ (p : List ℕ). (claims_table c.lenient.result p).gives claims) payload ((itself_leads c.lenient.result (payload_of c.from.result)).gives claims c.in_ok-token-3.ensures.first) in
    let gives = subst (λ (v : Validator). (claims_table v x.payload).gives claims) date paid in
    all_hold signs key (date_at c.args.now) c.args.text.now x claims c.in_ok-token.ensures.first signed gives
