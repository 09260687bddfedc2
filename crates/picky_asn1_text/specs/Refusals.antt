-- What the constructors of restricted strings answer (own).
use Rattle.std.specs.Prelude.{Option, Some, None}
use Rattle.picky_asn1_text.specs.declared.error.CharSetError.{CharSetError}
use Rattle.picky_asn1_text.specs.declared.error.CharSetError.TheVariants.{Invalid, OutOfMemory}

-- a refusal other than want of memory
pub data Fault : Type 0 where
  outside_set : Fault

-- want of memory is none
abbrev pub char_set_fault : CharSetError → Option Fault
char_set_fault Invalid = Some outside_set
char_set_fault OutOfMemory = None
