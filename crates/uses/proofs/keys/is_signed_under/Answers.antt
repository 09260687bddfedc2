use Rattle.std.proofs.Common.{◌≡◌, None}
use Rattle.picky_key_der.specs.Errors.{key_fault}
use Rattle.uses.proofs.Refusals.{as_refused}
use Rattle.uses.proofs.keys.is_signed_under.Goals as goal

pub returns-in_err-key-clause-every : goal.returns-in_err-key-clause-every
returns-in_err-key-clause-every g c key is = as_refused (λ e. key_fault e ≡ None) c.from_residual.result c.in_err-key.field-0.0 c.from_residual.ensures.1 (c.in_err-key.ensures.every key is)
