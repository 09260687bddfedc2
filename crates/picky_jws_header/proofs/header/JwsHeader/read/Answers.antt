use Rattle.serde_json.specs.View.{view}
use Rattle.picky_jws_header.specs.laws.Others.{others_part}
use Rattle.picky_jws_header.proofs.header.JwsHeader.read.Goals as goal

pub returns-in-Err : goal.returns-in-Err
returns-in-Err c = record { none = λ is h k. c.in-Err.ensures.found.none is h (others_part (view c.args.tree.now) h k) }
