use Rattle.std.proofs.Common.{sym, ap, ◌∙◌}
use Rattle.std.specs.Prelude.{option_map}
use Rattle.picky_key.specs.Exchange.{exchange_of}
use Rattle.uses.proofs.agreement.ephemeral_is_agreed.Goals as goal

pub is_agreed-requires : goal.is_agreed-requires
is_agreed-requires g c =
    let own = sym c.in_ok-public.ensures ∙ c.in-Some.is in
    let made = sym c.in_ok-sent.ensures ∙ ap (option_map exchange_of) c.in-Some-2.is in
    g.met.P.KeyProvider.agrees c.args.provider.now c.args.key.now c.in-Some.public c.in-Some-2.sent.epk c.args.seed.now c.in-Some-2.sent.secret.items own made
