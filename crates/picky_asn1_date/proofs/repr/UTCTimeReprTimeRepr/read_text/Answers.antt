use Rattle.picky_asn1_date.specs.DateText.{utc_text, IsUtcYear}
use Rattle.picky_asn1_date.proofs.Forms.{bad_text, no_utc, utc_of, utc_given, utc_only, by_new}
use Rattle.picky_asn1_date.proofs.repr.UTCTimeReprTimeRepr.read_text.Goals as goal

pub returns-in_default : goal.returns-in_default
returns-in_default c = bad_text IsUtcYear utc_text c.args.bytes.now (no_utc c.args.bytes.now c.in_default.ensures.none)

pub returns : goal.returns
returns c =
    let spelled = utc_given c.args.bytes.now c.in-Some.numbers c.utc_year.result c.in-Some.ensures.found c.utc_year.ensures.covered c.utc_year.ensures.places in
    rw c.ok_or.ensures.value (by_new IsUtcYear utc_text c.args.bytes.now (utc_of c.utc_year.result c.in-Some.numbers) c.new.result spelled (utc_only c.args.bytes.now (utc_of c.utc_year.result c.in-Some.numbers) spelled) c.new.ensures.exactly c.new.ensures.value)
