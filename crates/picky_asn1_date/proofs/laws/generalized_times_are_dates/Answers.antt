use Rattle.picky_asn1_date.proofs.DigitTexts.{generalized_digits, generalized_text_digits}
use Rattle.picky_asn1_date.proofs.Forms.{generalized_one}
use Rattle.picky_asn1_date.proofs.laws.generalized_times_are_dates.Goals as goal

pub returns : goal.returns
returns c = record { text = generalized_text_digits; one = generalized_one; every = generalized_digits }
