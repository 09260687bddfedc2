use Rattle.std.specs.Bool.{one_answer}
use Rattle.picky_asn1_text.specs.Bmp.{IsBmp}
use Rattle.picky_asn1_simple.specs.Sets.{is_bmp}
use Rattle.picky_asn1_simple.specs.laws.Sets.{bmp_decides}
use Rattle.picky_x509_bags.proofs.values.is_bmp.Goals as goal

pub returns-clause-value : goal.returns-clause-value
returns-clause-value c =
    one_answer {P = IsBmp c.args.octets.now} c.check.result (is_bmp c.args.octets.now) c.check.ensures (bmp_decides c.args.octets.now)
