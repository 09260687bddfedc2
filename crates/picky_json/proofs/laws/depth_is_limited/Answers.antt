use Rattle.serde_json.proofs.Nesting.{depth-read}
use Rattle.picky_json.proofs.laws.depth_is_limited.Goals as goal

pub returns : goal.returns
returns c = λ bytes t is. depth-read bytes t is.reads
