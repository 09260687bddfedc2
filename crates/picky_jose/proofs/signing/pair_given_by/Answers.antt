use Rattle.picky_jose.proofs.Giving.{pair_wanted}
use Rattle.picky_jose.proofs.signing.pair_given_by.Goals as goal

pub pair_form-requires : goal.pair_form-requires
pair_form-requires g c =
    let p = c.args.provider.now in
    let k = c.args.private_key.now in
    let law = g.met.P.KeyProvider in
    rw c.deref.ensures.value (pair_wanted (g.P.KeyProvider.signs p) (g.P.KeyProvider.sign_of p k) (g.P.KeyProvider.public_of p k)
    (record { signed = law.sign_signs p k; fits = law.sign_fits p k }) c.args.hash c.args.message.now c.in_ok-der.der.items c.in_ok-der.ensures.0)
