-- When an HTTP signature is accepted (draft-cavage-http-signatures-12, sections 2.1.4, 2.1.5, 2.3 and 2.5), and why not, in order.
use Rattle.std.specs.Prelude.{option_map, ◌≡◌, ◌≤◌, ◌+◌, ⊤, ℕ, Bool, true, false, IsTrue, List, Option, Some, None, codes}
use Rattle.picky_contract.specs.Refusals.{Table, the, need, named, done, ◌>>=◌}
use Rattle.picky_base64.specs.Base64.{B64}
use Rattle.picky_base64.specs.declared.Form.{Form}
use Rattle.picky_base64.specs.declared.Form.TheVariants.{Url, Standard}
use Rattle.picky_key_der.specs.declared.public.PublicKeyKind.{PublicKeyKind}
use Rattle.picky_key.specs.declared.algorithm.SignatureAlgorithm.{SignatureAlgorithm}
use Rattle.picky_key.specs.Family.{is_of_family}
use Rattle.picky_key.specs.Signatures.{Relation, vouched_table}
use Rattle.picky_http_request.specs.Answers.{Answer}
use Rattle.picky_http.specs.declared.verifier.HttpSignatureVerifier.{HttpSignatureVerifier}
use Rattle.picky_http.specs.declared.verifier.Method.{Method}
use Rattle.picky_http.specs.declared.verifier.Way.{Way}
use Rattle.picky_http.specs.declared.verifier.Way.TheVariants as way
use Rattle.picky_http.specs.Algorithms.{Algorithm, known, custom}
use Rattle.picky_http.specs.Faults.{HttpFault, not_base64, not_yet_valid, expired, signature, missing_argument, incompatible}
use Rattle.picky_http.specs.Lines.{Request, request_of, AreLines, text_table}
use Rattle.picky_http.specs.Parts.{covered}
use Rattle.picky_http.specs.Reading.{Reading, reading_of}
use Rattle.picky_http.specs.Signing.{Line, signing_string}

-- where the signed bytes come from: they are given, or a request answers their lines
pub data Source : Type 0 where
  given_text : List ℕ → Source
  answers_of : Request → Source

-- ---- in words

-- an algorithm that is known is the verifier's, and of the key's family
abbrev pub AlgorithmFits : PublicKeyKind → SignatureAlgorithm → Option Algorithm → Type 0
AlgorithmFits key algorithm None = Unit {0}
AlgorithmFits key algorithm (Some (custom text)) = Unit {0}
AlgorithmFits key algorithm (Some (known a)) = (a ≡ algorithm) × IsTrue (is_of_family a key)

-- with `expires` there is a moment, which is at most `expires` plus the leeway
abbrev pub IsInForce : Option ℕ → ℕ → Option ℕ → Type 0
IsInForce now leeway None = Unit {0}
IsInForce now leeway (Some expires) = (moment : ℕ) × (now ≡ Some moment) × (moment ≤ expires + leeway)

-- with `created` there is a moment, and `created` is at most the moment plus the leeway
abbrev pub HasBegun : Option ℕ → ℕ → Option ℕ → Type 0
HasBegun now leeway None = Unit {0}
HasBegun now leeway (Some created) = (moment : ℕ) × (now ≡ Some moment) × (created ≤ moment + leeway)

-- the signed bytes of a reading over a request: the signing string of the covered parts with their answers, in order
pub record IsMessage (q : Request) (r : Reading) (message : List ℕ) : Type 0 where
  pub lines : List Line
  pub are_lines : AreLines (record { request = q; created = r.created; expires = r.expires }) (covered r.headers) lines
  pub is : message ≡ signing_string lines

-- ---- in order

-- an algorithm that is known is the verifier's, and of the key's family
abbrev pub algorithm_table : PublicKeyKind → SignatureAlgorithm → Option Algorithm → Table ⊤ HttpFault
algorithm_table key algorithm None = done tt
algorithm_table key algorithm (Some (custom text)) = done tt
algorithm_table key algorithm (Some (known a)) = need ((a ≡ algorithm) × IsTrue (is_of_family a key)) (incompatible a)

-- with `expires` there is a moment, which is at most `expires` plus the leeway
abbrev pub expires_table : Option ℕ → ℕ → Option ℕ → Table ⊤ HttpFault
expires_table now leeway None = done tt
expires_table now leeway (Some expires) = do
  moment ← the (λ (m : ℕ). now ≡ Some m) (missing_argument (codes "now"))
  need (moment ≤ expires + leeway) (expired expires moment)

-- with `created` there is a moment, and `created` is at most the moment plus the leeway
abbrev pub created_table : Option ℕ → ℕ → Option ℕ → Table ⊤ HttpFault
created_table now leeway None = done tt
created_table now leeway (Some created) = do
  moment ← the (λ (m : ℕ). now ≡ Some m) (missing_argument (codes "now"))
  need (created ≤ moment + leeway) (not_yet_valid created moment)

-- the signed bytes
abbrev pub message_table : Source → Reading → Table (List ℕ) HttpFault
message_table (given_text bytes) r = done bytes
message_table (answers_of q) r = text_table (record { request = q; created = r.created; expires = r.expires }) (covered r.headers)

abbrev pub form_of : Bool → Form
form_of true = Url
form_of false = Standard

-- the rows of the signature: its text is strict base64 of its form, and the relation holds of the bytes that it spells
unfoldable pub signed_table : Relation → PublicKeyKind → SignatureAlgorithm → List ℕ → Reading → Table ⊤ HttpFault
signed_table signs key algorithm message r = do
  bytes ← the (B64 (form_of r.legacy) r.signature) not_base64
  named signature (vouched_table signs key algorithm message bytes)

-- the rows from the dates on: dates, signed bytes, the signature
unfoldable pub rows_table : Relation → PublicKeyKind → SignatureAlgorithm → Source → Option ℕ → ℕ → Reading → Table ⊤ HttpFault
rows_table signs key algorithm source now leeway r = do
  ends ← expires_table now leeway r.expires
  begins ← created_table now leeway r.created
  message ← message_table source r
  signed_table signs key algorithm message r

-- the rows from the algorithm on
abbrev pub checked_table : Relation → PublicKeyKind → SignatureAlgorithm → Source → Option ℕ → ℕ → Reading → Table ⊤ HttpFault
checked_table signs key algorithm source now leeway r = do
  fits ← algorithm_table key algorithm r.algorithm
  rows_table signs key algorithm source now leeway r

-- ---- a verifier

-- a key, and the algorithm that it is used with
pub record Using : Type 0 where
  pub key : PublicKeyKind
  pub algorithm : SignatureAlgorithm

-- where a verifier has its signing string from: it is given, or a request is asked
pub data Origin (Q : Type 0) : Type 0 where
  given_as : List ℕ → Origin Q
  asked_of : Q → Origin Q

-- what is set in a verifier
pub record Setup (Q : Type 0) : Type 0 where
  pub reading : Reading
  pub now : Option ℕ
  pub leeway : ℕ
  pub method : Option Using
  pub way : Option (Origin Q)

abbrev pub using_of : Method → Using
using_of m = record { key = m.key.now; algorithm = m.algorithm }

abbrev pub origin_of : {Q : Type 0} → Way Q → Origin Q
origin_of (way.Given bytes) = given_as bytes.now
origin_of (way.FromRequest q) = asked_of q.now

abbrev pub setup_of : {Q : Type 0} → HttpSignatureVerifier Q → Setup Q
setup_of v = record {
  reading = reading_of v.signature.now;
  now = v.now;
  leeway = v.leeway;
  method = option_map using_of v.method;
  way = option_map origin_of v.way;
}

-- where the signed bytes come from, where requests answer so
abbrev pub source_by : {Q : Type 0} → (Q → List ℕ → Answer) → (Q → Answer) → (Q → Answer) → Origin Q → Source
source_by answer method target (given_as bytes) = given_text bytes
source_by answer method target (asked_of q) = answers_of (request_of answer method target q)

abbrev pub source_of : {Q : Type 0} → (Q → List ℕ → Answer) → (Q → Answer) → (Q → Answer) → Way Q → Source
source_of answer method target w = source_by answer method target (origin_of w)

-- what a verifier answers: it has a key, an algorithm that fits, and a way to the signed bytes, and the rows hold
unfoldable pub verify_table : {Q : Type 0} → Relation → (Q → List ℕ → Answer) → (Q → Answer) → (Q → Answer) → Setup Q → Table ⊤ HttpFault
verify_table {Q = Q} signs answer method target s = do
  m ← the (λ (m : Using). s.method ≡ Some m) (missing_argument (codes "signature_method"))
  fits ← algorithm_table m.key m.algorithm s.reading.algorithm
  w ← the (λ (w : Origin Q). s.way ≡ Some w) (missing_argument (codes "signing_string_generation"))
  rows_table signs m.key m.algorithm (source_by answer method target w) s.now s.leeway s.reading
