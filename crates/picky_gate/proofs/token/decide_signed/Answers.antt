use Rattle.std.proofs.Common.{List, ℕ, inl, inr, refl, sym, subst}
use Rattle.picky_contract.specs.Refusals.{Meets, the, named, ◌>>=◌}
use Rattle.picky_contract.specs.laws.Tables.{then_meets}
use Rattle.picky_jose.specs.Faults.{jws_fault}
use Rattle.picky_jose.specs.Refusals.{Reading, TokenReading, reading_of, token_table}
use Rattle.picky_jose.specs.Views.{text_of}
use Rattle.picky_gate.specs.Admissible.{IsKeyUnder}
use Rattle.picky_gate.specs.Refusals.{admission_of, cause_of, of_jws, no_key, judged_table, signed_token_table}
use Rattle.picky_gate.specs.Seen.{key_view}
use Rattle.picky_gate.proofs.Causes.{stops}
use Rattle.picky_gate.proofs.token.decide_signed.Goals as goal

pub returns-in-Err : goal.returns-in-Err
unfolding signed_token_table
returns-in-Err g c =
    let signs = g.P.KeyProvider.signs c.args.provider.now in
    let text = c.args.text.now in
    stops of_jws (token_table text) (λ (x : Reading). the (IsKeyUnder c.args.ring.now x.header.kid) no_key >>= judged_table signs c.args.policy.now.validator text x) (jws_fault c.in-Err.error) (cause_of c.from.result) c.in-Err.ensures.first c.from.ensures

pub returns-in_default : goal.returns-in_default
unfolding signed_token_table
returns-in_default g c = inr (reading_of c.in-Ok.token, c.in-Ok.ensures.first, inl (refl, c.in_default.ensures))

pub judged-requires : goal.judged-requires
judged-requires g c = subst (λ (t : List ℕ). TokenReading (reading_of c.in-Ok.token) t) (sym c.in-Ok.ensures.text) c.in-Ok.ensures.found

pub returns : goal.returns
unfolding signed_token_table
returns g c =
    let signs = g.P.KeyProvider.signs c.args.provider.now in
    let v = c.args.policy.now.validator in
    let ring = c.args.ring.now in
    let text = c.args.text.now in
    let x = reading_of c.in-Ok.token in
    let key = key_view (c.in-Some.name, c.in-Some.key, c.in-Some.algorithm) in
    let named_so = subst (λ (n : List ℕ). Meets admission_of cause_of c.judged.result (judged_table signs v (text_of c.in-Ok.token) x (record { name = n; key = c.in-Some.key.now; algorithm = c.in-Some.algorithm }))) c.in_ok-from_str.ensures.ok c.judged.ensures in
    let last = subst (λ (t : List ℕ). Meets admission_of cause_of c.judged.result (judged_table signs v t x key)) c.in-Ok.ensures.text named_so in
    let from_key = then_meets admission_of cause_of c.judged.result (the (IsKeyUnder ring x.header.kid) no_key) (judged_table signs v text x) key c.in-Some.ensures last in
    then_meets admission_of cause_of c.judged.result (named of_jws (token_table text)) (λ (y : Reading). the (IsKeyUnder ring y.header.kid) no_key >>= judged_table signs v text y) x c.in-Ok.ensures.first from_key
