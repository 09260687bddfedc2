use Rattle.std.proofs.Common.{take}
use Rattle.std.specs.Prelude.{map}
use Rattle.picky_asn1_wrapper.specs.Lists.{SpellsAll}
use Rattle.picky_asn1_wrapper.proofs.items.write_items.Given as goal

abbrev pub invariant-loop-item : goal.invariant-loop-item
invariant-loop-item g l = SpellsAll g.T.DerForm.form.Encodes l.out.items (map g.T.DerForm.stands_for (take l.item-index l.items))
