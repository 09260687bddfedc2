use Rattle.picky_asn1_date.specs.DateText.{generalized_text, IsGeneralizedYear}
use Rattle.picky_asn1_date.proofs.Forms.{bad_text, no_generalized, generalized_of, generalized_given, generalized_only, by_new}
use Rattle.picky_asn1_date.proofs.repr.GeneralizedTimeReprTimeRepr.read_text.Goals as goal

pub returns-in_default : goal.returns-in_default
returns-in_default c = bad_text IsGeneralizedYear generalized_text c.args.bytes.now (no_generalized c.args.bytes.now c.in_default.ensures.none)

pub returns : goal.returns
returns c =
    let spelled = generalized_given c.args.bytes.now c.in-Some.numbers c.generalized_year.result c.in-Some.ensures.found c.generalized_year.ensures in
    rw c.ok_or.ensures.value (by_new IsGeneralizedYear generalized_text c.args.bytes.now (generalized_of c.generalized_year.result c.in-Some.numbers) c.new.result spelled (generalized_only c.args.bytes.now (generalized_of c.generalized_year.result c.in-Some.numbers) spelled) c.new.ensures.exactly c.new.ensures.value)
