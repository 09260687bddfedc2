use Rattle.std.proofs.Common.{sym, ◌∙◌}
use Rattle.picky_ring.proofs.TextMaps.{get_text}
use Rattle.picky_ring.proofs.text_map.look_up.Goals as goal

pub returns : goal.returns
returns g c = c.get.ensures.value ∙ sym (get_text c.args.map.now c.args.name.now)
