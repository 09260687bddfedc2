use Rattle.std.proofs.Common.{arith}
use Rattle.picky_gate.proofs.Theorem as theorem
use Rattle.picky_gate.proofs.program.run.Goals as goal

pub returns-clause-outcome : goal.returns-clause-outcome
returns-clause-outcome g c = theorem.outcome _ c.perform.ensures.replies c.perform.ensures.six

pub returns-clause-no_command : goal.returns-clause-no_command
returns-clause-no_command g c = theorem.no_command _ c.perform.ensures.replies c.perform.ensures.six

pub returns-clause-two : goal.returns-clause-two
returns-clause-two g c = theorem.two _ c.perform.ensures.replies c.perform.ensures.six

pub returns-clause-zero : goal.returns-clause-zero
returns-clause-zero g c = λ zero. (
  theorem.unrisen _ _ c.perform.ensures.later.0 (λ rose. omega (arith, zero, c.perform.ensures.fetch_failed (λ e. omega (arith, e, zero)) rose)),
  theorem.unrisen _ _ c.perform.ensures.later.1 (λ rose. omega (arith, zero, c.perform.ensures.write_failed rose)),
  theorem.zero _ c.perform.ensures.replies c.perform.ensures.six zero,
)
