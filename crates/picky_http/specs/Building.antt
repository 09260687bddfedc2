-- How an HTTP signature is built (draft-cavage-http-signatures-12, sections 2.1, 2.3 and 3.1), and why not, in order (own).
use Rattle.std.specs.Prelude.{◌≡◌, ℕ, Bool, List, [], Option, Some, None, option_map, map, codes, string_bytes}
use Rattle.picky_contract.specs.Refusals.{Table, the, done, ◌>>=◌}
use Rattle.picky_base64.specs.Base64.{B64}
use Rattle.picky_key_der.specs.declared.public.PublicKeyKind.{PublicKeyKind}
use Rattle.picky_key_private.specs.declared.private.PrivateKey.{PrivateKey}
use Rattle.picky_key.specs.declared.algorithm.SignatureAlgorithm.{SignatureAlgorithm}
use Rattle.picky_key.specs.Signatures.{Relation, none_given}
use Rattle.picky_http_request.specs.Answers.{Answer}
use Rattle.picky_http.specs.declared.builder.HttpSignatureBuilder.{HttpSignatureBuilder}
use Rattle.picky_http.specs.declared.making.SigningMethod.{SigningMethod}
use Rattle.picky_http.specs.Algorithms.{known}
use Rattle.picky_http.specs.Content.{Content, IsGiven, IsAnswered, given_table, asked_table}
use Rattle.picky_http.specs.Faults.{HttpFault, signature, missing_argument}
use Rattle.picky_http.specs.Lines.{Request, Asked, request_of}
use Rattle.picky_http.specs.Parts.{part_of}
use Rattle.picky_http.specs.Reading.{Reading}
use Rattle.picky_http.specs.Signing.{Part}
use Rattle.picky_http.specs.Steps.{always}
use Rattle.picky_http.specs.Verifying.{Origin, given_as, asked_of, origin_of, form_of, IsInForce, HasBegun, verify_table}

-- what signing gives: the signature by a key, with an algorithm, of a message, or none
abbrev pub Signer : Type 0
Signer = PrivateKey → SignatureAlgorithm → List ℕ → Option (List ℕ)

-- a private key, and the algorithm that it is used with
pub record SigningBy : Type 0 where
  pub key : PrivateKey
  pub algorithm : SignatureAlgorithm

-- what is set in a builder
pub record Draft (Q : Type 0) : Type 0 where
  pub key_id : Option (List ℕ)
  pub method : Option SigningBy
  pub headers : List Part
  pub created : Option ℕ
  pub expires : Option ℕ
  pub way : Option (Origin Q)
  pub legacy : Bool

-- nothing is set but the flag
abbrev pub blank : {Q : Type 0} → Bool → Draft Q
blank legacy = record { key_id = None; method = None; headers = []; created = None; expires = None; way = None; legacy = legacy }

-- a request is asked with the builder's numbers
abbrev pub asked_by : {Q : Type 0} → Request → Draft Q → Asked
asked_by q d = record { request = q; created = d.created; expires = d.expires }

-- the value that is built
abbrev pub built : List ℕ → Content → List ℕ → SignatureAlgorithm → Bool → Reading
built key_id c text algorithm legacy = record {
  key_id = key_id;
  headers = c.headers;
  created = c.created;
  expires = c.expires;
  signature = text;
  algorithm = Some (known algorithm);
  legacy = legacy;
}

-- ---- in words

-- what is covered and signed, where the signing string comes from there
abbrev pub IsContent : {Q : Type 0} → (Q → List ℕ → Answer) → (Q → Answer) → (Q → Answer) → Draft Q → Origin Q → Content → Type 0
IsContent answer method target d (given_as text) c = IsGiven d.headers text c
IsContent answer method target d (asked_of q) c = IsAnswered (asked_by (request_of answer method target q) d) d.headers c

-- the value is what is set, with what is covered, and the base64 text, in the form of the flag, of what signing gives
pub record IsBuilt {Q : Type 0} (sign_of : Signer) (answer : Q → List ℕ → Answer) (method target : Q → Answer) (d : Draft Q) (r : Reading) : Type 0 where
  pub by : SigningBy
  pub is_by : d.method ≡ Some by
  pub key_id : d.key_id ≡ Some r.key_id
  pub way : Origin Q
  pub is_way : d.way ≡ Some way
  pub content : Content
  pub is_content : IsContent answer method target d way content
  pub signed : List ℕ
  pub is_signed : sign_of by.key by.algorithm content.message ≡ Some signed
  pub spelled : B64 (form_of d.legacy) r.signature signed
  pub is : r ≡ built r.key_id content r.signature by.algorithm d.legacy

-- a verifier with the public key of the private key and the same algorithm, over the same request or signing string, and at a
-- moment that the dates of the value meet, accepts the value
abbrev pub IsAccepted : {Q : Type 0} → Relation → (PrivateKey → Option PublicKeyKind) → (Q → List ℕ → Answer) → (Q → Answer) → (Q → Answer) → Draft Q → Reading → Type 0
IsAccepted {Q = Q} signs public_of answer method target d r =
    (by : SigningBy) (key : PublicKeyKind) (way : Origin Q) (now : Option ℕ) (leeway : ℕ)
    → d.method ≡ Some by → public_of by.key ≡ Some key → d.way ≡ Some way → IsInForce now leeway r.expires → HasBegun now leeway r.created
    → (verify_table signs answer method target (record { reading = r; now = now; leeway = leeway; method = Some (record { key = key; algorithm = by.algorithm }); way = Some way })).holds tt

-- ---- in order

-- what is covered and signed
abbrev pub content_table : {Q : Type 0} → (Q → List ℕ → Answer) → (Q → Answer) → (Q → Answer) → Draft Q → Origin Q → Table Content HttpFault
content_table answer method target d (given_as text) = given_table d.headers text
content_table answer method target d (asked_of q) = asked_table (asked_by (request_of answer method target q) d) d.headers

-- the base64 text of the signature
unfoldable pub spelled_table : Signer → SigningBy → List ℕ → Bool → Table (List ℕ) HttpFault
spelled_table sign_of by message legacy = do
  signed ← the (λ (s : List ℕ). sign_of by.key by.algorithm message ≡ Some s) (signature none_given)
  always (λ (text : List ℕ). B64 (form_of legacy) text signed)

-- the value, where it is known what is covered and signed
unfoldable pub value_table : Signer → SigningBy → List ℕ → Content → Bool → Table Reading HttpFault
value_table sign_of by key_id content legacy = do
  text ← spelled_table sign_of by content.message legacy
  done (built key_id content text by.algorithm legacy)

-- the value, or the first argument that isn't set, or why nothing is covered or signed
unfoldable pub build_table : {Q : Type 0} → Signer → (Q → List ℕ → Answer) → (Q → Answer) → (Q → Answer) → Draft Q → Table Reading HttpFault
build_table {Q = Q} sign_of answer method target d = do
  by ← the (λ (m : SigningBy). d.method ≡ Some m) (missing_argument (codes "signature_method"))
  key_id ← the (λ (k : List ℕ). d.key_id ≡ Some k) (missing_argument (codes "key_id"))
  way ← the (λ (w : Origin Q). d.way ≡ Some w) (missing_argument (codes "signing_string_generation"))
  content ← content_table answer method target d way
  value_table sign_of by key_id content d.legacy

-- ---- a builder

abbrev pub by_of : SigningMethod → SigningBy
by_of m = record { key = m.key.now; algorithm = m.algorithm }

abbrev pub draft_of : {Q : Type 0} → HttpSignatureBuilder Q → Draft Q
draft_of b = record {
  key_id = option_map string_bytes b.key_id;
  method = option_map by_of b.method;
  headers = map part_of b.headers.items;
  created = b.created;
  expires = b.expires;
  way = option_map origin_of b.way;
  legacy = b.legacy;
}
