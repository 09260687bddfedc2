-- The lines that a signature covers, with a request's answers (draft-cavage-http-signatures-12, section 2.3).
use Rattle.std.specs.Prelude.{◌≡◌, ℕ, List, [], ◌∷◌, ◌++◌, Option, Some, None, IfSome, Result, Ok, Err, codes}
use Rattle.std.specs.List.{AllZip}
use Rattle.std.specs.Fmt.{decimal}
use Rattle.picky_contract.specs.Refusals.{Table, done, ◌>>=◌}
use Rattle.picky_http_request.specs.Answers.{Answer}
use Rattle.picky_http.specs.declared.error.HttpSignatureError.{HttpSignatureError}
use Rattle.picky_http.specs.Faults.{HttpFault, http_fault, no_line, missing_parameter}
use Rattle.picky_http.specs.Signing.{Part, Named, Target, Created, Expires, Line, signing_string, space}
use Rattle.picky_http.specs.Steps.{given}

-- what a request answers
pub record Request : Type 0 where
  pub answer : List ℕ → Answer
  pub method : Answer
  pub target : Answer

-- a request with its meanings
abbrev pub request_of : {Q : Type 0} → (Q → List ℕ → Answer) → (Q → Answer) → (Q → Answer) → Q → Request
request_of answer method target q = record { answer = answer q; method = method q; target = target q }

-- a request, and the numbers of a signature
pub record Asked : Type 0 where
  pub request : Request
  pub created : Option ℕ
  pub expires : Option ℕ

-- a text, or why there is none
abbrev pub Said : Type 0
Said = Result (List ℕ) HttpFault

abbrev pub answered : Answer → Said
answered (Ok text) = Ok text
answered (Err fault) = Err (no_line fault)

-- the digits of a number that is there
abbrev pub counted : List ℕ → Option ℕ → Said
counted parameter None = Err (missing_parameter parameter)
counted parameter (Some n) = Ok (decimal n)

-- the method, a space and the target
abbrev pub both : Answer → Answer → Said
both (Err fault) target = Err (no_line fault)
both (Ok method) (Err fault) = Err (no_line fault)
both (Ok method) (Ok target) = Ok (method ++ space ∷ target)

-- what is said of a part
abbrev pub part_answer : Asked → Part → Said
part_answer asked (Named name) = answered (asked.request.answer name)
part_answer asked Target = both asked.request.method asked.request.target
part_answer asked Created = counted (codes "created") asked.created
part_answer asked Expires = counted (codes "expires") asked.expires

-- each part with what is said of it, in order
abbrev pub AreLines : Asked → List Part → List Line → Type 0
AreLines asked parts lines = AllZip (λ part line. (line.0 ≡ part) × (part_answer asked part ≡ Ok line.1)) parts lines

-- the lines, or why the first part of which nothing is said has none
abbrev pub lines_table : Asked → List Part → Table (List Line) HttpFault
lines_table asked [] = done []
lines_table asked (part ∷ parts) = do
  answer ← given (part_answer asked part)
  lines ← lines_table asked parts
  done ((part, answer) ∷ lines)

-- the signing string
unfoldable pub text_table : Asked → List Part → Table (List ℕ) HttpFault
text_table asked parts = do
  lines ← lines_table asked parts
  done (signing_string lines)

-- the call answered this, unless memory ran out
abbrev pub Says : {X : Type 0} → (X → List ℕ) → Result X HttpSignatureError → Said → Type 0
Says view (Ok x) said = said ≡ Ok (view x)
Says view (Err e) said = IfSome (http_fault e) (λ f. said ≡ Err f)
