use Rattle.picky_jose.specs.laws.Encoding.{content_verifies}
use Rattle.picky_jose.proofs.Giving.{signs_under}
use Rattle.picky_jose.proofs.laws.what_is_signed_verifies.Goals as goal

pub returns : goal.returns
returns g c = λ key token x public signed.
    let p = c.args._provider.now in
    let k = c.args._private_key.now in
    content_verifies (g.P.KeyProvider.signs p) key (g.P.KeyProvider.sign_of p k)
    (signs_under (g.P.KeyProvider.signs p) (g.P.KeyProvider.sign_of p k) (g.P.KeyProvider.public_of p k) key public (g.met.P.KeyProvider.sign_signs p k))
    token x signed
