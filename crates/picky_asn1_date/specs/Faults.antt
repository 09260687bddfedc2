-- Refusals of dates (own).
use Rattle.std.specs.Prelude.{Option, Some, None}
use Rattle.picky_asn1_date.specs.declared.error.DateError.{DateError}
use Rattle.picky_asn1_date.specs.declared.error.DateError.TheVariants.{YearOutOfRange, BadDateText, NoSuchDate, OutOfMemory}

pub data Fault : Type 0 where
  year_out_of_range : Fault
  bad_date_text : Fault
  no_such_date : Fault
  out_of_memory : Fault

-- the refusal of a call that may want memory, of which there is none where it does
abbrev pub date_fault : DateError → Option Fault
date_fault YearOutOfRange = Some year_out_of_range
date_fault BadDateText = Some bad_date_text
date_fault NoSuchDate = Some no_such_date
date_fault OutOfMemory = None

-- the refusal of a call that takes no memory
abbrev pub any_fault : DateError → Option Fault
any_fault YearOutOfRange = Some year_out_of_range
any_fault BadDateText = Some bad_date_text
any_fault NoSuchDate = Some no_such_date
any_fault OutOfMemory = Some out_of_memory
