-- The documents of a command, and what the command comes to over them, in order (own).
use Rattle.std.specs.Prelude.{⊤, ◌≤◌, ℕ, List, Option, Some, None, length, IsUtf8}
use Rattle.picky_contract.specs.Refusals.{Table, the, need, named, done, ◌>>=◌}
use Rattle.picky_records.specs.declared.line.Line.{Line}
use Rattle.picky_records.specs.Meanings.{signs_by}
use Rattle.picky_records.specs.Reading as records
use Rattle.picky_records.specs.Records.{AreRecords}
use Rattle.picky_members.specs.Members.{TextOf}
use Rattle.picky_jwk.specs.Jwk.{Jwk, JwkSetOf}
use Rattle.picky_jwk.specs.Refusals.{json_table}
use Rattle.picky_ring.specs.declared.ring.RingEntry.{RingEntry}
use Rattle.picky_ring.specs.Refusals.{KeysRefusal, of_jwk, ring_table}
use Rattle.picky_ring.specs.Ring.{RingOfJwks}
use Rattle.picky_ring.specs.TextMap.{TextMap}
use Rattle.picky_http_request.specs.Heads.{Head, RequestOf}
use Rattle.picky_http.specs.Lines.{Request}
use Rattle.picky_gate.specs.declared.documents.Document.TheVariants as document
use Rattle.picky_gate.specs.declared.documents.Documents.{Documents}
use Rattle.picky_gate.specs.Admissible.{Admission, Admissible}
use Rattle.picky_gate.specs.Command.{Admit}
use Rattle.picky_gate.specs.Faults.{Flaw, too_long, not_utf8, of_keys, of_records, bad_head, Why, bad, refused}
use Rattle.picky_gate.specs.Moment.{policy_of}
use Rattle.picky_gate.specs.Refusals.{admits_table}
use Rattle.picky_gate.specs.Request.{asked_of}

-- the greatest length of a document in bytes
abbrev pub limit : ℕ
limit = 1048576

-- a document is bytes, within the limit
abbrev pub bytes_table : List ℕ → Table ⊤ Flaw
bytes_table doc = need (length doc ≤ limit) too_long

-- a text document is a document in UTF-8
unfoldable pub text_table : List ℕ → Table (List ℕ) Flaw
text_table doc = do
  fits ← bytes_table doc
  utf8 ← need (IsUtf8 doc) not_utf8
  done doc

-- a records document, and its lines
unfoldable pub records_table : List ℕ → Table (List Line) Flaw
records_table doc = do
  text ← text_table doc
  named of_records (records.records_table text)

-- a text that tells a set of keys, and its ring
unfoldable pub set_table : List ℕ → Table (TextMap RingEntry) KeysRefusal
set_table text = do
  keys ← named of_jwk (json_table JwkSetOf text)
  ring_table keys

-- a keys document, and its ring
unfoldable pub keys_table : List ℕ → Table (TextMap RingEntry) Flaw
keys_table doc = do
  text ← text_table doc
  named of_keys (set_table text)

-- a request document, and the head that it begins with
unfoldable pub head_table : List ℕ → Table Head Flaw
head_table doc = do
  fits ← bytes_table doc
  the (RequestOf doc) bad_head

-- a request document that may be absent
abbrev pub request_table : Option (List ℕ) → Table (Option Head) Flaw
request_table None = done None
request_table (Some doc) = do
  head ← head_table doc
  done (Some head)

-- the text, over the records, the ring and a request
abbrev pub text_decision : Admit → List Line → TextMap RingEntry → Request → Table Admission Why
text_decision c records ring request = named refused (admits_table (signs_by records) ring (policy_of c) request c.text)

-- the same from the request on
unfoldable pub request_decision : Admit → Documents → List Line → TextMap RingEntry → Table Admission Why
request_decision c docs records ring = do
  head ← named (bad document.Request) (request_table docs.request)
  text_decision c records ring (asked_of head)

-- the same from the keys on
unfoldable pub keys_decision : Admit → Documents → List Line → Table Admission Why
keys_decision c docs records = do
  ring ← named (bad document.Keys) (keys_table docs.keys)
  request_decision c docs records ring

-- the whole: the records, the keys, the request, the text
unfoldable pub decision : Admit → Documents → Table Admission Why
decision c docs = do
  records ← named (bad document.Records) (records_table docs.records)
  keys_decision c docs records

-- the request document is within the limit and begins with this head, or there is none
abbrev pub IsRequest : Option (List ℕ) → Option Head → Type 0
IsRequest None None = Unit {0}
IsRequest (Some doc) (Some head) = (length doc ≤ limit) × RequestOf doc head
IsRequest _ _ = ⊥

-- the keys document is a set of keys, and this is its ring
pub record KeysOf (doc : List ℕ) (ring : TextMap RingEntry) : Type 0 where
  pub keys : List Jwk
  pub tells : TextOf JwkSetOf doc keys
  pub ring_of : RingOfJwks keys ring

-- the text is admissible as this over the documents, each within the limit and of its grammar
pub record IsAdmissible (c : Admit) (docs : Documents) (a : Admission) : Type 0 where
  pub records_fit : length docs.records ≤ limit
  pub records_utf8 : IsUtf8 docs.records
  pub records : List Line
  pub are_records : AreRecords docs.records records
  pub keys_fit : length docs.keys ≤ limit
  pub keys_utf8 : IsUtf8 docs.keys
  pub ring : TextMap RingEntry
  pub is_ring : KeysOf docs.keys ring
  pub head : Option Head
  pub is_request : IsRequest docs.request head
  pub admissible : Admissible (signs_by records) ring (policy_of c) (asked_of head) c.text a
