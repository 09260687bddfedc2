-- What is printed, and the statuses of what isn't admitted (own).
use Rattle.std.specs.Prelude.{ℕ, ◌-◌, List, [], ◌∷◌, ◌++◌, map, codes, Option, Some, None}
use Rattle.serde_json.specs.Data.{Data}
use Rattle.serde_json.specs.Written.{compact_text}
use Rattle.picky_json.specs.Text.{json_text}
use Rattle.picky_json.specs.Tree.{FloatFree}
use Rattle.picky_jwk_names.specs.declared.alg.JwsAlg.{JwsAlg}
use Rattle.picky_jwk_names.specs.Names.{alg_name}
use Rattle.picky_jwk_key.specs.Refusals as jwk
use Rattle.picky_jose.specs.Faults as jose
use Rattle.picky_http.specs.Faults as http
use Rattle.picky_http.specs.Parts.{covered}
use Rattle.picky_http.specs.Reading.{Reading}
use Rattle.picky_http.specs.Signing.{part_text}
use Rattle.picky_key.specs.declared.algorithm.SignatureAlgorithm.{SignatureAlgorithm}
use Rattle.picky_key.specs.Words.{algorithm_word}
use Rattle.std.specs.Fmt.{decimal}
use Rattle.picky_records.specs.declared.error.RecordFault.{RecordFault}
use Rattle.picky_records.specs.declared.error.RecordFault.TheVariants.{BadLine, Family, Conflict, OutOfMemory}
use Rattle.picky_ring.specs.Refusals as ring
use Rattle.picky_gate.specs.declared.documents.Document.{Document}
use Rattle.picky_gate.specs.declared.documents.Document.TheVariants.{Keys, Records, Request}
use Rattle.picky_gate.specs.Admissible.{Admission, token, request}
use Rattle.picky_gate.specs.Faults.{Flaw, too_long, not_utf8, of_keys, of_records, bad_head, Why, bad, refused}
use Rattle.picky_gate.specs.Refusals.{Cause, no_scheme, no_key, of_http, of_token, unbuilt, inner_memory}

-- the two lines of a token: its key's name and its claims as compact JSON
abbrev pub token_text : List ℕ → JwsAlg → Data → List ℕ
token_text name alg claims = codes "admitted " ++ (json_text name ++ (codes "\ntoken " ++ (alg_name alg ++ (codes " " ++ (compact_text claims ++ codes "\n")))))

-- a number, or `-` where there is none
abbrev pub number_text : Option ℕ → List ℕ
number_text None = codes "-"
number_text (Some n) = decimal n

-- the texts after the first of a list
abbrev pub later_texts : List (List ℕ) → List ℕ
later_texts [] = []
later_texts (text ∷ texts) = codes "," ++ (json_text text ++ later_texts texts)

-- a list of texts as compact JSON
abbrev pub texts_json : List (List ℕ) → List ℕ
texts_json [] = codes "[]"
texts_json (text ∷ texts) = codes "[" ++ (json_text text ++ (later_texts texts ++ codes "]"))

-- the two lines of a header text: its key's name, the ring's algorithm, the covered parts and the dates
abbrev pub request_text : List ℕ → SignatureAlgorithm → Reading → List ℕ
request_text name algorithm r =
    codes "admitted " ++ (json_text name ++ (codes "\nrequest " ++ (algorithm_word algorithm ++ (codes " " ++ (texts_json (map part_text (covered r.headers))
    ++ (codes " " ++ (number_text r.created ++ (codes " " ++ (number_text r.expires ++ codes "\n")))))))))

-- the lines of what was admitted
abbrev pub admitted_text : Admission → List ℕ
admitted_text (token name header claims) = token_text name header.alg claims
admitted_text (request name algorithm reading) = request_text name algorithm reading

-- the line of n texts, of which a are admissible
abbrev pub generated_text : ℕ → ℕ → List ℕ
generated_text n a = codes "generated " ++ (decimal n ++ (codes " admitted " ++ (decimal a ++ (codes " refused " ++ (decimal (n - a) ++ codes "\n")))))

-- what is printed as JSON has no float
abbrev pub IsPrintable : Admission → Type 0
IsPrintable (token name header claims) = FloatFree claims
IsPrintable (request name algorithm reading) = Unit {0}

abbrev pub document_text : Document → List ℕ
document_text Keys = codes "keys"
document_text Records = codes "records"
document_text Request = codes "request"

-- codes are the names of the errors' variants
abbrev pub jws_text : jose.JwsFault → List ℕ
jws_text jose.json = codes "Jws.Json"
jws_text (jose.signature fault) = codes "Jws.Signature"
jws_text (jose.invalid_encoding input) = codes "Jws.InvalidEncoding"
jws_text jose.not_base64 = codes "Jws.Base64Decoding"
jws_text jose.float = codes "Jws.Float"

abbrev pub jwt_text : jose.JwtFault → List ℕ
jwt_text (jose.jws fault) = jws_text fault
jwt_text jose.no_json = codes "Jwt.Json"
jwt_text (jose.no_integer claim) = codes "Jwt.InvalidRegisteredClaimType"
jwt_text (jose.missing claim) = codes "Jwt.RequiredClaimMissing"
jwt_text (jose.not_yet_valid start date) = codes "Jwt.NotYetValid"
jwt_text (jose.expired end date) = codes "Jwt.Expired"
jwt_text (jose.invalid_validator description) = codes "Jwt.InvalidValidator"
jwt_text jose.has_float = codes "Jwt.Float"
jwt_text jose.inner_memory = codes "Jwt.Jws"

abbrev pub http_text : http.HttpFault → List ℕ
http_text http.not_base64 = codes "Http.Base64Decoding"
http_text (http.not_yet_valid created now) = codes "Http.NotYetValid"
http_text (http.expired end now) = codes "Http.Expired"
http_text (http.signature fault) = codes "Http.Signature"
http_text (http.no_line fault) = codes "Http.SigningStringGeneration"
http_text (http.bad_line line) = codes "Http.InvalidSigningString"
http_text (http.missing_argument argument) = codes "Http.MissingBuilderArgument"
http_text http.covers_nothing = codes "Http.BuilderEmptyHeaders"
http_text http.covers_beside = codes "Http.BuilderHeadersProvidedWithPreGenerated"
http_text (http.missing_parameter parameter) = codes "Http.MissingRequiredParameter"
http_text (http.invalid_parameter parameter) = codes "Http.InvalidParameter"
http_text (http.incompatible algorithm) = codes "Http.IncompatibleAlgorithm"
http_text http.inner_memory = codes "Http.SigningStringGeneration"

abbrev pub cause_text : Cause → List ℕ
cause_text no_scheme = codes "NoScheme"
cause_text no_key = codes "NoKey"
cause_text (of_http fault) = http_text fault
cause_text (of_token fault) = jwt_text fault
cause_text unbuilt = codes "Unbuilt"
cause_text inner_memory = codes "OutOfMemory"

abbrev pub jwk_text : jwk.Fault → List ℕ
jwk_text jwk.json = codes "Jwk.Json"
jwk_text jwk.not_base64 = codes "Jwk.Base64Decoding"
jwk_text (jwk.unsupported algorithm) = codes "Jwk.UnsupportedAlgorithm"
jwk_text jwk.bad_ec_key = codes "Jwk.InvalidEcPublicKey"
jwk_text jwk.bad_coordinates = codes "Jwk.InvalidEcPointCoordinates"
jwk_text jwk.bad_ed_key = codes "Jwk.InvalidEdPublicKey"

-- the fault of a keys document; want of memory, which no table names, is that of no line
abbrev pub keys_text : ring.KeysRefusal → List ℕ
keys_text (ring.of_jwk fault) = jwk_text fault
keys_text (ring.wrong_family name) = codes "AlgorithmFamily"
keys_text (ring.duplicate_name name) = codes "DuplicateName"
keys_text ring.inner_memory = codes "OutOfMemory"

-- the fault of a records document and its line; want of memory, which no table names, has no text
abbrev pub records_text : RecordFault → List ℕ
records_text (BadLine line) = codes "BadLine " ++ decimal line
records_text (Family line) = codes "Family " ++ decimal line
records_text (Conflict line) = codes "Conflict " ++ decimal line
records_text OutOfMemory = []

abbrev pub flaw_text : Flaw → List ℕ
flaw_text too_long = codes "TooLong"
flaw_text not_utf8 = codes "Utf8"
flaw_text (of_keys fault) = keys_text fault
flaw_text (of_records fault) = records_text fault
flaw_text bad_head = codes "BadHead"

abbrev pub why_text : Why → List ℕ
why_text (refused cause) = codes "refused " ++ (cause_text cause ++ codes "\n")
why_text (bad document flaw) = codes "bad " ++ (document_text document ++ (codes " " ++ (flaw_text flaw ++ codes "\n")))

abbrev pub why_status : Why → ℕ
why_status (refused cause) = 1
why_status (bad document flaw) = 4
