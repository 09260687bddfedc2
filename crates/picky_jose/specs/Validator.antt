-- Validators of claims: an optional date, and how `nbf` and `exp` are checked (own; RFC 7519, sections 4.1.4 and 4.1.5).
use Rattle.std.specs.Prelude.{Bool, true, false, Option, Some, None}
use Rattle.picky_jose.specs.declared.date.JwtDate.{JwtDate}
use Rattle.picky_jose.specs.declared.date.ClaimCheck.{ClaimCheck}
use Rattle.picky_jose.specs.declared.date.ClaimCheck.TheVariants.{Ignored, Optional, Required}

pub record Validator : Type 0 where
  pub date : Option JwtDate
  pub nbf : ClaimCheck
  pub exp : ClaimCheck

-- both claims may be absent; one that is there is compared with the date
abbrev pub lenient : JwtDate → Validator
lenient d = record { date = Some d; nbf = Optional; exp = Optional }

-- both claims are there, and are compared with the date
abbrev pub strict : JwtDate → Validator
strict d = record { date = Some d; nbf = Required; exp = Required }

-- there is no date, and no claim is looked at
abbrev pub no_check : Validator
no_check = record { date = None; nbf = Ignored; exp = Ignored }

-- a claim is required only where there is a date
abbrev pub can_judge : Option JwtDate → ClaimCheck → ClaimCheck → Bool
can_judge None Required _ = false
can_judge None _ Required = false
can_judge _ _ _ = true
