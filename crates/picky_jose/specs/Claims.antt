-- When claims are accepted by a validator (RFC 7519, sections 4.1.4, 4.1.5 and 7.2), and why not, in order.
use Rattle.std.specs.Prelude.{◌≡◌, ⊤, ℕ, ℤ, List, codes, Option, Some, None, IsTrue}
use Rattle.serde_json.specs.Data.{Data}
use Rattle.picky_contract.specs.Refusals.{Table, the, need, done, ◌>>=◌}
use Rattle.picky_json.specs.Tree.{Tree, FloatFree, member, integer}
use Rattle.picky_jose.specs.declared.date.JwtDate.{JwtDate}
use Rattle.picky_jose.specs.declared.date.ClaimCheck.{ClaimCheck}
use Rattle.picky_jose.specs.declared.date.ClaimCheck.TheVariants.{Ignored, Optional, Required}
use Rattle.picky_jose.specs.Dates.{IsAtOrAfterStart, IsBeforeEnd}
use Rattle.picky_jose.specs.Faults.{JwtFault, no_json, no_integer, missing, not_yet_valid, expired, invalid_validator, has_float}
use Rattle.picky_jose.specs.Validator.{Validator, can_judge}

-- the tree is this integer in i64
abbrev pub IsInteger : Data → ℤ → Type 0
IsInteger t z = integer t ≡ Some z

-- a start that is looked at: an absent one passes
abbrev pub start_table : JwtDate → Option Data → Table ⊤ JwtFault
start_table d None = done tt
start_table d (Some t) = do
  nbf ← the (IsInteger t) (no_integer (codes "nbf"))
  need (IsAtOrAfterStart d nbf) (not_yet_valid nbf d)

-- an end that is looked at: an absent one passes
abbrev pub end_table : JwtDate → Option Data → Table ⊤ JwtFault
end_table d None = done tt
end_table d (Some t) = do
  exp ← the (IsInteger t) (no_integer (codes "exp"))
  need (IsBeforeEnd d exp) (expired exp d)

-- the claim is there
abbrev pub IsThere : Option Data → Type 0
IsThere o = ¬ (o ≡ None)

-- `nbf`: one that is ignored isn't looked at, one that is required is there
abbrev pub nbf_table : JwtDate → ClaimCheck → Option Data → Table ⊤ JwtFault
nbf_table d Ignored o = done tt
nbf_table d Optional o = start_table d o
nbf_table d Required o = do
  there ← need (IsThere o) (missing (codes "nbf"))
  start_table d o

-- `exp`, likewise
abbrev pub exp_table : JwtDate → ClaimCheck → Option Data → Table ⊤ JwtFault
exp_table d Ignored o = done tt
exp_table d Optional o = end_table d o
exp_table d Required o = do
  there ← need (IsThere o) (missing (codes "exp"))
  end_table d o

-- the dates of claims at a date: `nbf`, then `exp`; claims that are no object have neither
unfoldable pub dated_table : Validator → JwtDate → Data → Table ⊤ JwtFault
dated_table v d t = do
  started ← nbf_table d v.nbf (member (codes "nbf") t)
  exp_table d v.exp (member (codes "exp") t)

-- what is said of a validator by which a claim must be there, and which has no date
abbrev pub no_date : JwtFault
no_date = invalid_validator (codes "current date is missing")

-- the dates of claims; without a date none may be required, and no claim is looked at
abbrev pub rows_at : Validator → Data → Option JwtDate → Table ⊤ JwtFault
rows_at v t None = need (IsTrue (can_judge None v.nbf v.exp)) no_date
rows_at v t (Some d) = dated_table v d t

abbrev pub dates_table : Validator → Data → Table ⊤ JwtFault
dates_table v t = rows_at v t v.date

-- the dates of claims meet the validator: all these rows hold
abbrev pub AreInTime : Validator → Data → Type 0
AreInTime v t = (dates_table v t).holds tt

-- the claims of a payload: its tree, where that is float-free and the dates of it meet the validator
unfoldable pub claims_table : Validator → List ℕ → Table Data JwtFault
claims_table v payload = do
  can ← need (IsTrue (can_judge v.date v.nbf v.exp)) no_date
  t ← the (Tree payload) no_json
  free ← need (FloatFree t) has_float
  dates ← dates_table v t
  done t

-- c is what the claims of a payload tell, as a type reads them: the payload has a float-free tree, whose dates meet the
-- validator, and that tree tells c
pub record ClaimsOf {C : Type 0} (Tells : Data → C → Type 0) (v : Validator) (payload : List ℕ) (c : C) : Type 0 where
  pub tree : Data
  pub read : Tree payload tree
  pub free : FloatFree tree
  pub dates : AreInTime v tree
  pub tells : Tells tree c

-- the conditions of claims that a type reads, in their order: those of claims, and that their tree tells a value
unfoldable pub told_table : {C : Type 0} → (Data → C → Type 0) → Validator → List ℕ → Table C JwtFault
told_table Tells v payload = do
  t ← claims_table v payload
  the (Tells t) no_json

-- a tree that is read as it is
abbrev pub IsItself : Data → Data → Type 0
IsItself t c = c ≡ t
