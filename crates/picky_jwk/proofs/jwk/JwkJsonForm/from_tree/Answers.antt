use Rattle.serde_json.specs.View.{view}
use Rattle.picky_jwk.specs.laws.Others.{others_part}
use Rattle.picky_jwk.proofs.jwk.JwkJsonForm.from_tree.Goals as goal

pub returns-in-Err : goal.returns-in-Err
returns-in-Err c = record { none = λ is k h. c.in-Err.ensures.found.none is k (others_part (view c.args.tree.now) k h) }
