-- Request heads: what they answer (draft-cavage-http-signatures-12, section 2.3), and which head bytes begin with (RFC 9112, sections 3 and 5).
use Rattle.std.specs.Prelude.{◌≡◌, ℕ, ◌≤◌, Bool, ◌==◌, Ok, List, map, filter, length, string_bytes, IsUtf8, Option, Some, None}
use Rattle.std.specs.List.{before_first}
use Rattle.std.specs.Str.{str_eq_ignore_ascii_case, str_to_ascii_lowercase}
use Rattle.httparse.specs.Grammar.{Field, field_value, ReadsRequest}
use Rattle.httparse.specs.Grammar as grammar
use Rattle.httparse.specs.Spans.{span_bytes}
use Rattle.httparse.specs.declared.spans.HeaderSpan.{HeaderSpan}
use Rattle.picky_http_request.specs.declared.error.HeadFault.{HeadFault}
use Rattle.picky_http_request.specs.declared.error.HeadFault.TheVariants.{BadHead, OutOfMemory}
use Rattle.picky_http_request.specs.declared.head.RequestField.{RequestField}
use Rattle.picky_http_request.specs.declared.head.RequestHead.{RequestHead}
use Rattle.picky_http_request.specs.Answers.{Answer}
use Rattle.picky_http_request.specs.Values.{values_answer}

-- ---- what a head answers

-- the field has the name, ASCII case aside
abbrev pub has_name : List ℕ → RequestField → Bool
has_name name field = str_eq_ignore_ascii_case (string_bytes field.name) name

-- the values of the fields with the name, in order
abbrev pub values_of : List ℕ → List RequestField → List (List ℕ)
values_of name fields = map (λ f. f.value.items) (filter (has_name name) fields)

abbrev pub head_answer : RequestHead → List ℕ → Answer
head_answer head name = values_answer name (values_of name head.fields.items)

-- the method in ASCII lower case
abbrev pub head_method : RequestHead → Answer
head_method head = Ok (str_to_ascii_lowercase (string_bytes head.method))

-- the target before its first `?`
abbrev pub head_target : RequestHead → Answer
head_target head = Ok (before_first (λ b. b == 63) (string_bytes head.target))

-- ---- which head bytes begin with

-- a head without where its texts and bytes lie in memory; a field is its name and its value
pub record Head : Type 0 where
  pub method : List ℕ
  pub target : List ℕ
  pub fields : List (List ℕ × List ℕ)

abbrev pub field_view : RequestField → List ℕ × List ℕ
field_view f = (string_bytes f.name, f.value.items)

abbrev pub head_view : RequestHead → Head
head_view h = record { method = string_bytes h.method; target = string_bytes h.target; fields = map field_view h.fields.items }

-- a field of the grammar, with its name in lower case and its value without the white space around it
abbrev pub lower_field : Field → List ℕ × List ℕ
lower_field f = (str_to_ascii_lowercase f.name, field_value f)

abbrev pub head_of : grammar.RequestHead → Head
head_of g = record { method = g.method; target = g.target; fields = map lower_field g.fields }

-- a prefix of the bytes is a head of the grammar with at most 100 header lines, and this is it
pub record RequestOf (bytes : List ℕ) (head : Head) : Type 0 where
  pub parsed : grammar.RequestHead
  pub rest : List ℕ
  pub reads : ReadsRequest bytes parsed rest
  pub few : length parsed.fields ≤ 100
  pub is : head ≡ head_of parsed

-- why bytes aren't read, want of memory aside
pub data Fault : Type 0 where
  bad_head : Fault

abbrev pub head_fault : HeadFault → Option Fault
head_fault BadHead = Some bad_head
head_fault OutOfMemory = None

-- ---- spans of a parsed head

-- what a header's spans cover, with the name in lower case
abbrev pub span_field : List ℕ → HeaderSpan → List ℕ × List ℕ
span_field bytes h = (str_to_ascii_lowercase (span_bytes bytes h.name), span_bytes bytes h.value)

-- both spans of a header lie in the bytes, and the name is text
pub record IsReadable (bytes : List ℕ) (h : HeaderSpan) : Type 0 where
  pub name_ordered : h.name.start ≤ h.name.end
  pub name_fits : h.name.end ≤ length bytes
  pub name_text : IsUtf8 (span_bytes bytes h.name)
  pub value_ordered : h.value.start ≤ h.value.end
  pub value_fits : h.value.end ≤ length bytes
