use Rattle.picky_asn1_text.proofs.Comparing.{bytes_agree}
use Rattle.picky_asn1_text.proofs.laws.strings_compare.Goals as goal

pub returns-clause-order : goal.returns-clause-order
returns-clause-order g c = bytes_agree c.args.string.now c.args.other.now
