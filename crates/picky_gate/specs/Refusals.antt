-- Why a text isn't admitted, and the conditions of a text in their order (own).
use Rattle.std.specs.Prelude.{◌<◌, ℕ, List, Option, Some, None, string_bytes}
use Rattle.serde_json.specs.View.{view}
use Rattle.picky_contract.specs.Refusals.{Table, the, need, named, done, ◌>>=◌}
use Rattle.picky_key.specs.Signatures.{Relation}
use Rattle.picky_jws_header.specs.Header.{Header}
use Rattle.picky_jws_header.specs.Views.{header_view}
use Rattle.picky_jose.specs.Claims.{claims_table}
use Rattle.picky_jose.specs.Faults.{JwsFault, JwtFault, jwt_fault, jws}
use Rattle.picky_jose.specs.Refusals.{Reading, token_table}
use Rattle.picky_jose.specs.Signatures.{signed_table}
use Rattle.picky_jose.specs.Validator.{Validator}
use Rattle.picky_http.specs.Faults.{HttpFault, http_fault}
use Rattle.picky_http.specs.Lines.{Request}
use Rattle.picky_http.specs.Reading.{reading_of}
use Rattle.picky_http.specs.Refusals.{reading_table}
use Rattle.picky_http.specs.Verifying.{checked_table}
use Rattle.picky_http.specs.Verifying.{answers_of}
use Rattle.picky_ring.specs.declared.ring.RingEntry.{RingEntry}
use Rattle.picky_ring.specs.TextMap.{TextMap}
use Rattle.picky_gate.specs.declared.policy.Policy.{Policy}
use Rattle.picky_gate.specs.declared.admission.Admitted.{Admitted}
use Rattle.picky_gate.specs.declared.admission.Admitted.TheVariants.{Token, Request as Signed}
use Rattle.picky_gate.specs.declared.admission.Refusal.{Refusal}
use Rattle.picky_gate.specs.declared.admission.Refusal.TheVariants as refusal
use Rattle.picky_gate.specs.Admissible.{Admission, token, request, NamedKey, IsKeyUnder}
use Rattle.picky_gate.specs.Scheme.{Scheme, bearer, header_text, IsScheme, dots_in}

-- what was admitted, without where it lies in memory
abbrev pub admission_of : Admitted → Admission
admission_of (Token name header claims) = token (string_bytes name.0) (header_view header) (view claims)
admission_of (Signed name algorithm said) = request (string_bytes name.0) algorithm (reading_of said)

-- Why a text isn't admitted, want of memory aside. No table names `inner_memory`, the want of memory of an inner error,
-- so none is carried: it is the refusal's own.
pub data Cause : Type 0 where
  no_scheme : Cause
  no_key : Cause
  of_http : HttpFault → Cause
  of_token : JwtFault → Cause
  unbuilt : Cause
  inner_memory : Cause

-- what an inner error says
abbrev pub held : {F : Type 0} → (F → Cause) → Option F → Cause
held as_cause (Some fault) = as_cause fault
held as_cause None = inner_memory

abbrev pub cause_of : Refusal → Option Cause
cause_of refusal.NoScheme = Some no_scheme
cause_of refusal.NoKey = Some no_key
cause_of (refusal.Http error) = Some (held of_http (http_fault error))
cause_of (refusal.Token error) = Some (held of_token (jwt_fault error))
cause_of refusal.OutOfMemory = None
cause_of refusal.Unbuilt = Some unbuilt

-- ---- tokens

-- an error of a signed token
abbrev pub of_jws : JwsFault → Cause
of_jws fault = of_token (jws fault)

-- the conditions of a token whose signature holds, in their order, and what is admitted
unfoldable pub claimed_table : Validator → List ℕ → Header → List ℕ → Table Admission Cause
claimed_table validator name header payload = do
  claims ← named of_token (claims_table validator payload)
  done (token name header claims)

-- the same of a token that was read and whose key is known
unfoldable pub judged_table : Relation → Validator → List ℕ → Reading → NamedKey → Table Admission Cause
judged_table signs validator text x key = do
  signed ← named of_jws (signed_table signs key.key x.header.alg text)
  claimed_table validator key.name x.header x.payload

-- the conditions of a signed token, in their order
unfoldable pub signed_token_table : Relation → TextMap RingEntry → Policy → List ℕ → Table Admission Cause
signed_token_table signs ring policy text = do
  x ← named of_jws (token_table text)
  key ← the (IsKeyUnder ring x.header.kid) no_key
  judged_table signs policy.validator text x key

-- the conditions of a token: it is a signed one, since encrypted ones, which have four dots or more, aren't built
unfoldable pub bearer_table : Relation → TextMap RingEntry → Policy → List ℕ → Table Admission Cause
bearer_table signs ring policy text = do
  signed ← need (dots_in text < 4) unbuilt
  signed_token_table signs ring policy text

-- ---- header texts

-- the conditions of a header text, over a request, in their order
unfoldable pub header_table : Relation → TextMap RingEntry → Policy → Request → List ℕ → Table Admission Cause
header_table signs ring policy asked text = do
  r ← named of_http (reading_table text)
  key ← the (IsKeyUnder ring (Some r.key_id)) no_key
  checked ← named of_http (checked_table signs key.key key.algorithm (answers_of asked) policy.now policy.leeway r)
  done (request key.name key.algorithm r)

-- ---- all texts

-- the conditions of a text of this kind
abbrev pub scheme_table : Relation → TextMap RingEntry → Policy → Request → Scheme → Table Admission Cause
scheme_table signs ring policy asked (bearer text) = bearer_table signs ring policy text
scheme_table signs ring policy asked (header_text text) = header_table signs ring policy asked text

-- the conditions of a text: it is of a kind, whose conditions hold
unfoldable pub admits_table : Relation → TextMap RingEntry → Policy → Request → List ℕ → Table Admission Cause
admits_table signs ring policy asked text = do
  scheme ← the (IsScheme text) no_scheme
  scheme_table signs ring policy asked scheme
