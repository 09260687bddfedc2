use Rattle.std.proofs.Common.{◌≡◌, ◌++◌}
use Rattle.serde_json.specs.View.{members_view}
use Rattle.picky_members.specs.Names.{members_without, pairs_view, names_view}
use Rattle.picky_members.proofs.names.members_without.Given as goal

-- what was taken, and then what is to be taken of what is left
abbrev pub invariant-loop-name : goal.invariant-loop-name
invariant-loop-name l = pairs_view l.additional.entries ++ members_without (names_view l.names) (members_view l.name-iterator) ≡ members_without (names_view l.names) (members_view l.members.entries)
