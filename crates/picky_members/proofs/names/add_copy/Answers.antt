use Rattle.picky_members.proofs.names.add_copy.Goals as goal

pub returns : goal.returns
returns c = record {
  name = c.in_ok-name.name;
  tree = c.in_ok-clone.field-0;
  spelled = c.in_ok-name.ensures.cases;
  seen = c.in_ok-clone.ensures.cases;
  added = c.in_ok-insert.ensures.entries;
}
