use Rattle.picky_asn1_date.proofs.DigitTexts.{utc_digits, utc_text_digits}
use Rattle.picky_asn1_date.proofs.Forms.{utc_one}
use Rattle.picky_asn1_date.proofs.laws.utc_times_are_dates.Goals as goal

pub returns : goal.returns
returns c = record { text = utc_text_digits; one = utc_one; every = utc_digits }
