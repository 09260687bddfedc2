use Rattle.picky_http_request.proofs.read.read_head.Goals as goal

pub returns-in_default-clause-every : goal.returns-in_default-clause-every
returns-in_default-clause-every c = λ head r. absurd ((rw c.in_default.is at c.in_ok-head.ensures) head r)

pub returns-clause-every : goal.returns-clause-every
returns-clause-every c = λ head r. (rw c.in-Some.is at c.in_ok-head.ensures).1 head r
