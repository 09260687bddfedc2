use Rattle.picky_aes.specs.Cipher.{cipher}
use Rattle.picky_modes.proofs.Steps.{IsUnwrappedTo}
use Rattle.picky_modes.proofs.wrap.unwrap_registers.Given as goal

abbrev pub invariant-loop-t : goal.invariant-loop-t
invariant-loop-t l = IsUnwrappedTo (cipher l.aes) l.n l.fn.registers l.registers l.t

abbrev pub decreases-loop-t : goal.decreases-loop-t
decreases-loop-t l = l.t
