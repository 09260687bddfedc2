-- What the requests of the crate `http` answer (draft-cavage-http-signatures-12, section 2.3).
use Rattle.std.specs.Prelude.{ℕ, List, Ok, map}
use Rattle.http.specs.declared.request.Parts.{Parts}
use Rattle.http_header.specs.HeaderMap.{Entries, get_all}
use Rattle.http_header.specs.FieldValue.{FieldValue}
use Rattle.http_header.specs.Token.{lowercase}
use Rattle.http_uri.specs.Uri.{uri_path}
use Rattle.picky_http_request.specs.Answers.{Answer}
use Rattle.picky_http_request.specs.Values.{values_answer}

-- the bytes of the values under the name, ASCII case aside, in order
abbrev pub map_values : List ℕ → Entries FieldValue → List (List ℕ)
map_values name headers = map (λ v. v.bytes) (get_all headers (lowercase name))

abbrev pub parts_answer : Parts → List ℕ → Answer
parts_answer parts name = values_answer name (map_values name parts.headers)

-- the method in ASCII lower case
abbrev pub parts_method : Parts → Answer
parts_method parts = Ok (lowercase parts.method)

-- the path of the target
abbrev pub parts_target : Parts → Answer
parts_target parts = Ok (uri_path parts.uri)
