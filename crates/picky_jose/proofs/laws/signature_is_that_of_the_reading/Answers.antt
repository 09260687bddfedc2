use Rattle.picky_jose.specs.laws.Vouching.{signed_holds, signed_gives}
use Rattle.picky_jose.proofs.laws.signature_is_that_of_the_reading.Goals as goal

pub returns : goal.returns
returns g c = λ key alg text x r.
    let signs = g.P.KeyProvider.signs c.args._provider.now in
    (signed_holds x text signs key alg r, signed_gives x text signs key alg r)
