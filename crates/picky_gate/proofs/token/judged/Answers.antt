use Rattle.std.proofs.Common.{string_bytes, subst}
use Rattle.picky_contract.specs.Refusals.{Meets, named}
use Rattle.picky_contract.specs.laws.Tables.{then_meets}
use Rattle.picky_jose.specs.Faults.{jws_fault}
use Rattle.picky_jose.specs.Refusals.{reading_of}
use Rattle.picky_jose.specs.Signatures.{signed_table}
use Rattle.picky_jose.specs.Views.{Content, text_of}
use Rattle.picky_gate.specs.Refusals.{admission_of, cause_of, of_jws, claimed_table, judged_table}
use Rattle.picky_gate.proofs.Causes.{stops}
use Rattle.picky_gate.proofs.token.judged.Goals as goal

pub returns-in-Ok : goal.returns-in-Ok
unfolding judged_table
returns-in-Ok g c =
    let signs = g.P.KeyProvider.signs c.args.provider.now in
    let x = reading_of c.args.token in
    let name = string_bytes c.args.name.0 in
    let v = c.args.validator.now in
    let rest = subst (λ (k : Content). Meets admission_of cause_of c.claimed.result (claimed_table v name k.header k.payload)) c.in-Ok.ensures.content c.claimed.ensures in
    then_meets admission_of cause_of c.claimed.result (named of_jws (signed_table signs c.args.key.now x.header.alg (text_of c.args.token))) (λ _. claimed_table v name x.header x.payload) tt c.in-Ok.ensures.first rest

pub returns-in-Err : goal.returns-in-Err
unfolding judged_table
returns-in-Err g c =
    let signs = g.P.KeyProvider.signs c.args.provider.now in
    let x = reading_of c.args.token in
    stops of_jws (signed_table signs c.args.key.now x.header.alg (text_of c.args.token)) (λ _. claimed_table c.args.validator.now (string_bytes c.args.name.0) x.header x.payload) (jws_fault c.in-Err.error) (cause_of c.from.result)
    c.in-Err.ensures.first c.from.ensures
