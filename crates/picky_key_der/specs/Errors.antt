-- What the refusals of keys say, and readings of DER as steps of a table (own).
use Rattle.std.specs.Prelude.{◌≡◌, Option, Some, None, Result, Ok, Err}
use Rattle.picky_contract.specs.Refusals.{Table}
use Rattle.picky_der.specs.declared.fault.DerError.{DerError}
use Rattle.picky_der.specs.declared.fault.DerError.TheVariants as der
use Rattle.picky_key_der.specs.declared.error.KeyError.{KeyError}
use Rattle.picky_key_der.specs.declared.error.KeyError.TheVariants.{Der, OutOfMemory}

-- the refusal, none for want of memory
abbrev pub key_fault : KeyError → Option KeyError
key_fault OutOfMemory = None
key_fault e = Some e

-- a fault of DER as a refusal
abbrev pub refused_as : DerError → KeyError
refused_as der.OutOfMemory = OutOfMemory
refused_as e = Der e

-- the value that reading gives, or its fault is the refusal
abbrev pub read : {X : Type 0} → Result X DerError → Table X KeyError
read given = record {
  holds = λ x. given ≡ Ok x;
  gives = λ x. given ≡ Ok x;
  refuses = λ f. (e : DerError) × (given ≡ Err e) × (f ≡ Der e);
}
