-- What is asked of the request of a command (draft-cavage-http-signatures-12, section 2.3).
use Rattle.std.specs.Prelude.{ℕ, Ok, List, map, filter, ◌==◌, Option, Some, None}
use Rattle.std.specs.List.{before_first}
use Rattle.std.specs.Str.{str_eq_ignore_ascii_case, str_to_ascii_lowercase}
use Rattle.picky_http_request.specs.Answers.{no_request}
use Rattle.picky_http_request.specs.Heads.{Head}
use Rattle.picky_http_request.specs.Values.{values_answer}
use Rattle.picky_http.specs.Lines.{Request}

-- the values of the fields with the name, ASCII case aside, in order
abbrev pub values_under : List ℕ → List (List ℕ × List ℕ) → List (List ℕ)
values_under name fields = map (λ f. f.1) (filter (λ f. str_eq_ignore_ascii_case f.0 name) fields)

-- what a head answers, and what is answered where there is none
abbrev pub asked_of : Option Head → Request
asked_of None = record { answer = λ _. no_request; method = no_request; target = no_request }
asked_of (Some head) = record {
  answer = λ name. values_answer name (values_under name head.fields);
  method = Ok (str_to_ascii_lowercase head.method);
  target = Ok (before_first (λ b. b == 63) head.target);
}
