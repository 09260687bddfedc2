use Rattle.std.proofs.Common.{◌≡◌}
use Rattle.picky_aes.specs.Cipher.{cipher}
use Rattle.picky_modes.specs.KeyWrap.{wrap_steps}
use Rattle.picky_modes.proofs.wrap.wrap_registers.Given as goal

abbrev pub invariant-loop-t : goal.invariant-loop-t
invariant-loop-t l = l.registers ≡ wrap_steps (cipher l.aes) l.n l.fn.registers l.t
