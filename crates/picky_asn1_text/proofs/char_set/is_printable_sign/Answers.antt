use Rattle.std.proofs.Common.{eqb}
use Rattle.std.specs.Prelude.{codes}
use Rattle.std.proofs.lemmas.Bool.Decides.{Decides-eqb}
use Rattle.std.proofs.lemmas.List.Elements.{contains_decides, Decides-contains}
use Rattle.picky_asn1_text.proofs.char_set.is_printable_sign.Goals as goal

pub returns : goal.returns
returns c = Decides-contains (codes " '()+,-./:=?") c.args.byte c.contains.result (contains_decides eqb Decides-eqb (codes " '()+,-./:=?") c.args.byte c.contains.result c.contains.ensures.cases)
