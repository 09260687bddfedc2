use Rattle.picky_jose.proofs.Giving.{asked_some}
use Rattle.picky_jose.proofs.signing.signature_given_by.Goals as goal

pub returns-in-Ok-clause-some : goal.returns-in-Ok-clause-some
returns-in-Ok-clause-some g c =
    let p = c.args.provider.now in
    let k = c.args.private_key.now in
    let law = g.met.P.KeyProvider in
    asked_some (g.P.KeyProvider.signs p) (g.P.KeyProvider.sign_of p k) (g.P.KeyProvider.public_of p k)
    (record { signed = law.sign_signs p k; fits = law.sign_fits p k }) c.asked_by.result c.args.message.now c.in-Ok.signature.items c.in-Ok.ensures
