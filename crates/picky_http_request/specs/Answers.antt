-- What a request answers: a text, or why there is none (own).
use Rattle.std.specs.Prelude.{◌≡◌, ℕ, List, Option, Some, None, IfSome, Result, Ok, Err, codes, string_bytes}
use Rattle.std.specs.Cow.{cow_str_bytes}
use Rattle.std.specs.declared.borrow.CowStr.{CowStr}
use Rattle.std.specs.declared.alloc.Global.{Global}
use Rattle.picky_http_request.specs.declared.error.HttpRequestError.{HttpRequestError}
use Rattle.picky_http_request.specs.declared.error.HttpRequestError.TheVariants as error

-- why a request has no answer, want of memory aside: a value of the header with this name is no text, or
-- another reason
pub data RequestFault : Type 0 where
  not_text : List ℕ → RequestFault
  unexpected : List ℕ → RequestFault

abbrev pub request_fault : HttpRequestError → Option RequestFault
request_fault (error.HeaderValueToStr key) = Some (not_text (string_bytes key))
request_fault (error.Unexpected reason) = Some (unexpected reason.now)
request_fault error.OutOfMemory = None

-- a text, or a fault
abbrev pub Answer : Type 0
Answer = Result (List ℕ) RequestFault

-- the error is that of the answer, or want of memory
abbrev pub IsErrorOf : HttpRequestError → Answer → Type 0
IsErrorOf e answer = IfSome (request_fault e) (λ f. answer ≡ Err f)

-- the call answered this, unless memory ran out
abbrev pub Answers : Result (CowStr Global) HttpRequestError → Answer → Type 0
Answers (Ok text) answer = answer ≡ Ok (cow_str_bytes text)
Answers (Err e) answer = IsErrorOf e answer

-- what is answered where there is no request
abbrev pub no_request : Answer
no_request = Err (unexpected (codes "no request"))
