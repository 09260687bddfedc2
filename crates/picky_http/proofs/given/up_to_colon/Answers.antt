use Rattle.std.proofs.Common.{inl, refl}
use Rattle.picky_http.proofs.Entries.{uncut_lacks}
use Rattle.picky_http.proofs.given.up_to_colon.Goals as goal

pub returns-in-None : goal.returns-in-None
returns-in-None c = (uncut_lacks 58 c.args.text.now c.in-None.ensures.every, inl refl)
