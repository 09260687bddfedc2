-- The policy of a command (own; dates by RFC 7519, section 2).
use Rattle.std.specs.Prelude.{ℕ, pos, Option, Some, None, option_map}
use Rattle.picky_jose.specs.declared.date.JwtDate.{JwtDate}
use Rattle.picky_jose.specs.declared.date.ClaimCheck.TheVariants.{Optional, Required}
use Rattle.picky_jose.specs.Validator.{Validator, strict, lenient, no_check}
use Rattle.picky_gate.specs.declared.asked.Checks.{Checks}
use Rattle.picky_gate.specs.declared.asked.Checks.TheVariants.{Strict, Lenient, NoChecks}
use Rattle.picky_gate.specs.declared.policy.Policy.{Policy}
use Rattle.picky_gate.specs.Command.{Admit}

-- the date of a moment in seconds since 1970-01-01T00:00:00Z
abbrev pub date_at : ℕ → ℕ → JwtDate
date_at n l = record { numeric_date = pos n; leeway = l }

-- the checks of dates: those that are given, else lenient ones with a moment, and none without
abbrev pub checks_of : Option Checks → Option ℕ → Checks
checks_of (Some checks) now = checks
checks_of None (Some n) = Lenient
checks_of None None = NoChecks

-- the validator of checks, with a date or without; without one a claim may still be required, which no validator can judge
abbrev pub validator_of : Checks → Option JwtDate → Validator
validator_of Strict (Some d) = strict d
validator_of Strict None = record no_check { nbf = Required; exp = Required }
validator_of Lenient (Some d) = lenient d
validator_of Lenient None = record no_check { nbf = Optional; exp = Optional }
validator_of NoChecks _ = no_check

-- the leeway in seconds, which is 0 where none is given
abbrev pub leeway_of : Option ℕ → ℕ
leeway_of None = 0
leeway_of (Some l) = l

-- the policy of what is asked
abbrev pub policy_of : Admit → Policy
policy_of c = record {
  validator = validator_of (checks_of c.checks c.now) (option_map (λ n. date_at n (leeway_of c.leeway)) c.now);
  now = c.now;
  leeway = leeway_of c.leeway;
}
