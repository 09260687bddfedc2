use Rattle.std.proofs.Common.{string_bytes}
use Rattle.picky_ring.proofs.TextMaps.{insert_text}
use Rattle.picky_ring.proofs.text_map.put.Goals as goal

pub returns-in-Ok-clause-ok : goal.returns-in-Ok-clause-ok
returns-in-Ok-clause-ok g c = insert_text (string_bytes c.args.name) c.args.value c.args.map.now c.insert.new.self c.in-Ok.ensures.updates
