use Rattle.picky_gcm.proofs.Hashing.{Ghash-more, Ghash-none}
use Rattle.picky_gcm.proofs.laws.hash_by_blocks.Goals as goal

pub returns-clause-none : goal.returns-clause-none
returns-clause-none c = Ghash-none

pub returns-clause-more : goal.returns-clause-more
returns-clause-more c = Ghash-more
