use Rattle.std.proofs.Common.{ap, ◌∙◌}
use Rattle.picky_members.specs.Names.{pairs_view}
use Rattle.picky_members.specs.Writing.{put_all}
use Rattle.picky_members.proofs.write.members_of.Goals as goal

pub loop-name-preserved : goal.loop-name-preserved
loop-name-preserved c = ap (put_all (pairs_view c.next.new.self)) c.in_ok-put_copy.ensures ∙ rw c.in-Some.ensures.steps at c.loop-name.invariant
