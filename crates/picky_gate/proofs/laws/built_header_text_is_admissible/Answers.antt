use Rattle.picky_gate.proofs.MadeHeaders.{built_admissible}
use Rattle.picky_gate.proofs.laws.built_header_text_is_admissible.Goals as goal

pub returns : goal.returns
returns g c = λ ring policy d r by key. built_admissible (g.P.KeyProvider.signs c.args._provider.now) (g.P.KeyProvider.sign_of c.args._provider.now) (g.P.KeyProvider.public_of c.args._provider.now)
    g.Q.HttpRequest.answer g.Q.HttpRequest.method g.Q.HttpRequest.target (g.met.P.KeyProvider.signs_in_family c.args._provider.now) (g.met.P.KeyProvider.sign_signs c.args._provider.now)
    ring policy c.args._request.now d r by key
