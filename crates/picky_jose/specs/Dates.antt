-- Dates of claims in whole numbers (RFC 7519, sections 2, 4.1.4 and 4.1.5).
use Rattle.std.specs.Prelude.{ℤ, pos, ◌+ℤ◌, ◌-ℤ◌, ◌<ℤ◌, ◌≤ℤ◌}
use Rattle.picky_jose.specs.declared.date.JwtDate.{JwtDate}

-- the date is at or after the start less its leeway
abbrev pub IsAtOrAfterStart : JwtDate → ℤ → Type 0
IsAtOrAfterStart d nbf = (nbf -ℤ pos d.leeway) ≤ℤ d.numeric_date

-- the date is before the end plus its leeway
abbrev pub IsBeforeEnd : JwtDate → ℤ → Type 0
IsBeforeEnd d exp = d.numeric_date <ℤ (exp +ℤ pos d.leeway)
