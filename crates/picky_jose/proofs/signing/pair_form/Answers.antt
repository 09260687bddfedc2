use Rattle.picky_jose.proofs.Giving.{form_meets}
use Rattle.picky_jose.proofs.signing.pair_form.Goals as goal

pub returns : goal.returns
returns c = form_meets (λ v. v.items) c.args.size c.args.der.now c.in_ok-pair.pair c.to_fixed.result c.in_ok-pair.ensures c.to_fixed.ensures.first
