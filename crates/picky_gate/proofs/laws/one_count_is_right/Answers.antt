use Rattle.picky_gate.proofs.Counting.{counts_once}
use Rattle.picky_gate.proofs.laws.one_count_is_right.Goals as goal

pub returns : goal.returns
returns c = λ seed n a b h k. counts_once seed n a b h k
