use Rattle.std.proofs.Common.{◌≡◌}
use Rattle.serde_json.specs.Data.{no_members}
use Rattle.serde_json.specs.View.{members_view}
use Rattle.picky_members.specs.Names.{pairs_view}
use Rattle.picky_members.specs.Writing.{put_all}
use Rattle.picky_members.proofs.write.members_of.Given as goal

-- what is left is still to be put in
abbrev pub invariant-loop-name : goal.invariant-loop-name
invariant-loop-name l = put_all (pairs_view l.name-iterator) (members_view l.members.entries) ≡ put_all (pairs_view l.initial.name-iterator) no_members
