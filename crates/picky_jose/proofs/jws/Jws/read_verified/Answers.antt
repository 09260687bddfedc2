use Rattle.picky_jose.specs.Refusals.{reading_of}
use Rattle.picky_jose.proofs.Verifying.{verified_meets}
use Rattle.picky_jose.proofs.jws.Jws.read_verified.Goals as goal

pub verify_as_read-requires : goal.verify_as_read-requires
verify_as_read-requires g c = rw c.in_ok-token.ensures.text c.in_ok-token.ensures.found

pub returns : goal.returns
returns g c =
    let signs = g.P.KeyProvider.signs c.args.provider.now in
    let key = c.args.public_key.now in
    let x = reading_of c.in_ok-token.token in
    verified_meets signs key c.args.encoded_token.now c.verify_as_read.result x c.in_ok-token.ensures.first (rw c.in_ok-token.ensures.text at c.verify_as_read.ensures.first) c.verify_as_read.ensures.content
