-- The decision over documents says one thing, and it is that of the headline's words.
use Rattle.std.proofs.Common.{◌≡◌, inl, inr, ◌≤◌, ◌+◌, ℕ, List, [], ◌∷◌, length, take, map, Option, Some, None, IsUtf8, string_bytes, sym, ap, ◌∙◌, subst, arith, refl}
use Rattle.std.specs.Str.{str_eq_ignore_ascii_case}
use Rattle.std.proofs.lemmas.Bool.{cases_Bool}
use Rattle.picky_contract.specs.Refusals.{done}
use Rattle.std.proofs.lemmas.List.{take_all, length-take}
use Rattle.picky_contract.specs.laws.Tables.{Exact, the_exact, need_exact, done_exact, then_exact, named_exact, Leads, leads_itself, then_leads, named_leads}
use Rattle.picky_key.specs.Signatures.{Relation}
use Rattle.picky_records.specs.Meanings.{signs_by}
use Rattle.picky_records.specs.Reading as records
use Rattle.picky_records.specs.Records.{AreRecords}
use Rattle.picky_records.specs.laws.Exact as exact
use Rattle.picky_records.specs.laws.Records.{records_are, records_hold}
use Rattle.picky_members.specs.Members.{TextOf}
use Rattle.picky_jwk_key.specs.Refusals.{json}
use Rattle.picky_jwk.specs.Jwk.{JwkSetOf}
use Rattle.picky_jwk.specs.Refusals.{json_table}
use Rattle.picky_ring.specs.declared.ring.RingEntry.{RingEntry}
use Rattle.picky_ring.specs.Refusals.{of_jwk}
use Rattle.picky_ring.specs.TextMap.{TextMap}
use Rattle.picky_ring.specs.laws.Rings.{ring_exact, ring_holds, ring_from}
use Rattle.picky_http_request.specs.declared.head.RequestField.{RequestField}
use Rattle.picky_http_request.specs.declared.head.RequestHead.{RequestHead}
use Rattle.picky_http_request.specs.Heads.{Head, RequestOf, head_view, field_view, values_of, head_answer, head_method, head_target}
use Rattle.picky_http_request.specs.Values.{values_answer}
use Rattle.picky_http.specs.Lines.{Request, request_of}
use Rattle.picky_gate.specs.Request.{asked_of, values_under}
use Rattle.picky_gate.specs.declared.documents.Document.TheVariants as document
use Rattle.picky_gate.specs.declared.documents.Documents.{Documents}
use Rattle.picky_gate.specs.declared.policy.Policy.{Policy}
use Rattle.picky_gate.specs.Admissible.{Admission, SchemeAdmissible}
use Rattle.picky_gate.specs.Command.{Admit}
use Rattle.picky_gate.specs.Documents.{limit, text_table, records_table, set_table, keys_table, head_table, request_table, request_decision, keys_decision, decision, KeysOf, IsRequest, IsAdmissible}
use Rattle.picky_gate.specs.Faults.{too_long, not_utf8, of_keys, of_records, bad_head, bad, refused}
use Rattle.picky_gate.specs.Lines.{IsPrintable}
use Rattle.picky_gate.specs.Moment.{policy_of}
use Rattle.picky_gate.specs.Refusals.{admits_table}
use Rattle.picky_gate.specs.Scheme.{Scheme, bearer, header_text}
use Rattle.picky_gate.proofs.Admitting.{admits_exact, to_admissible, from_admissible}

text_exact : (doc : List ℕ) → Exact (text_table doc)
unfolding text_table
text_exact doc =
    then_exact _ _ (need_exact (length doc ≤ limit) too_long) (λ _.
    then_exact _ _ (need_exact (IsUtf8 doc) not_utf8) (λ _.
    done_exact doc))

records_exact : (doc : List ℕ) → Exact (records_table doc)
unfolding records_table
records_exact doc = then_exact _ _ (text_exact doc) (λ text. named_exact of_records (records.records_table text) (exact.records_exact text))

set_exact : (text : List ℕ) → Exact (set_table text)
unfolding set_table
set_exact text = then_exact _ _ (named_exact of_jwk (json_table JwkSetOf text) (the_exact (TextOf JwkSetOf text) json)) (λ keys. ring_exact keys)

keys_exact : (doc : List ℕ) → Exact (keys_table doc)
unfolding keys_table
keys_exact doc = then_exact _ _ (text_exact doc) (λ text. named_exact of_keys (set_table text) (set_exact text))

-- the table of a keys document says the same as its words
to_keys : (text : List ℕ) (ring : TextMap RingEntry) → (set_table text).holds ring → KeysOf text ring
unfolding set_table
to_keys text ring (keys, tells, is_ring) = record { keys = keys; tells = tells; ring_of = ring_holds keys ring is_ring }

from_keys : (text : List ℕ) (ring : TextMap RingEntry) → KeysOf text ring → (set_table text).holds ring
unfolding set_table
from_keys text ring k = (k.keys, k.tells, ring_from k.keys ring k.ring_of)

head_exact : (doc : List ℕ) → Exact (head_table doc)
unfolding head_table
head_exact doc = then_exact _ _ (need_exact (length doc ≤ limit) too_long) (λ _. the_exact (RequestOf doc) bad_head)

request_exact : (doc : Option (List ℕ)) → Exact (request_table doc)
request_exact None = done_exact None
request_exact (Some doc) = then_exact _ _ (head_exact doc) (λ head. done_exact (Some head))

-- the table of a request document says the same as its words
request_is : (doc : Option (List ℕ)) (head : Option Head) → (request_table doc).holds head → IsRequest doc head
unfolding head_table
request_is None None h = tt
request_is None (Some head) h = absurd cc
request_is (Some doc) None (x, read, is) = absurd cc
request_is (Some doc) (Some head) (x, (u, fits, reads), is) = let same : head ≡ x = cc in (fits, subst (RequestOf doc) (sym same) reads)

is_request : (doc : Option (List ℕ)) (head : Option Head) → IsRequest doc head → (request_table doc).holds head
unfolding head_table
is_request None None h = refl
is_request None (Some head) h = absurd h
is_request (Some doc) None h = absurd h
is_request (Some doc) (Some head) h = (head, (tt, h.0, h.1), refl)

pub decision_exact : (c : Admit) (docs : Documents) → Exact (decision c docs)
unfolding decision keys_decision request_decision
decision_exact c docs =
    then_exact _ _ (named_exact (bad document.Records) (records_table docs.records) (records_exact docs.records)) (λ records.
    then_exact _ _ (named_exact (bad document.Keys) (keys_table docs.keys) (keys_exact docs.keys)) (λ ring.
    then_exact _ _ (named_exact (bad document.Request) (request_table docs.request) (request_exact docs.request)) (λ head.
    named_exact refused (admits_table (signs_by records) ring (policy_of c) (asked_of head) c.text) (admits_exact (signs_by records) ring (policy_of c) (asked_of head) c.text))))

pub to_words : (c : Admit) (docs : Documents) (a : Admission) → (decision c docs).holds a → IsAdmissible c docs a
unfolding decision keys_decision request_decision records_table keys_table text_table
to_words c docs a (records, (rs, (u, records_fit, (v, records_utf8, rs_is)), are_records), (ring, (ks, (w, keys_fit, (x, keys_utf8, ks_is)), is_ring), (head, is_head, admits))) = record {
  records_fit = records_fit;
  records_utf8 = records_utf8;
  records = records;
  are_records = subst (λ (d : List ℕ). AreRecords d records) rs_is (records_are rs records are_records);
  keys_fit = keys_fit;
  keys_utf8 = keys_utf8;
  ring = ring;
  is_ring = subst (λ (d : List ℕ). KeysOf d ring) ks_is (to_keys ks ring is_ring);
  head = head;
  is_request = request_is docs.request head is_head;
  admissible = to_admissible (signs_by records) ring (policy_of c) (asked_of head) c.text a admits;
}

pub from_words : (c : Admit) (docs : Documents) (a : Admission) → IsAdmissible c docs a → (decision c docs).holds a
unfolding decision keys_decision request_decision records_table keys_table text_table
from_words c docs a h = (
  h.records,
  (docs.records, (tt, h.records_fit, (tt, h.records_utf8, refl)), records_hold docs.records h.records h.are_records),
  (h.ring, (docs.keys, (tt, h.keys_fit, (tt, h.keys_utf8, refl)), from_keys docs.keys h.ring h.is_ring), (h.head, is_request docs.request h.head h.is_request, from_admissible (signs_by h.records) h.ring (policy_of c) (asked_of h.head) c.text a h.admissible)),
)

-- what is admissible is printed: the claims of a token are float-free
printed : (signs : Relation) (ring : TextMap RingEntry) (policy : Policy) (asked : Request) (scheme : Scheme) (a : Admission) → SchemeAdmissible signs ring policy asked scheme a → IsPrintable a
printed signs ring policy asked (bearer text) a h = subst IsPrintable (sym h.is) h.free
printed signs ring policy asked (header_text text) a h = subst IsPrintable (sym h.is) tt

pub printable : (c : Admit) (docs : Documents) (a : Admission) → (decision c docs).gives a → IsPrintable a
printable c docs a gives =
    let h = to_words c docs a ((decision_exact c docs).holds a gives) in
    printed (signs_by h.records) h.ring (policy_of c) (asked_of h.head) h.admissible.scheme a h.admissible.admissible

-- ---- a document that was cut after the limit is refused as the whole is

whole : (told bytes : List ℕ) → bytes ≡ take (limit + 1) told → length bytes ≤ limit → bytes ≡ told
whole told bytes is fits =
    let cut : length (take (limit + 1) told) ≤ limit = subst (λ (l : List ℕ). length l ≤ limit) is fits in
    let short : length told ≤ limit + 1 = omega (arith, simp length-take at cut) in
    is ∙ take_all (limit + 1) told short

shorter : (told bytes : List ℕ) → bytes ≡ take (limit + 1) told → length told ≤ limit → length bytes ≤ limit
shorter told bytes is fits = subst (λ (l : List ℕ). length l ≤ limit) (sym is) (simp length-take (omega arith))

text_leads : (told bytes : List ℕ) → bytes ≡ take (limit + 1) told → Leads (text_table bytes) (text_table told)
unfolding text_table
text_leads told bytes is = record {
  gives = λ x h. subst (λ (l : List ℕ). (text_table l).gives x) (whole told bytes is h.1) h;
  refuses = λ f h. elim h [
    | inl long ↦ inl (long.0, λ fits. long.1 (shorter told bytes is fits))
    | inr later ↦ subst (λ (l : List ℕ). (text_table l).refuses f) (whole told bytes is later.1) (inr later)
  ];
}

head_leads : (told bytes : List ℕ) → bytes ≡ take (limit + 1) told → Leads (head_table bytes) (head_table told)
unfolding head_table
head_leads told bytes is = record {
  gives = λ x h. subst (λ (l : List ℕ). (head_table l).gives x) (whole told bytes is h.1) h;
  refuses = λ f h. elim h [
    | inl long ↦ inl (long.0, λ fits. long.1 (shorter told bytes is fits))
    | inr later ↦ subst (λ (l : List ℕ). (head_table l).refuses f) (whole told bytes is later.1) (inr later)
  ];
}

-- a request document that may be absent, cut after the limit
abbrev pub IsCut : Option (List ℕ) → Option (List ℕ) → Type 0
IsCut None None = Unit {0}
IsCut (Some told) (Some bytes) = bytes ≡ take (limit + 1) told
IsCut _ _ = ⊥

request_leads : (told bytes : Option (List ℕ)) → IsCut told bytes → Leads (request_table bytes) (request_table told)
request_leads None None cut = leads_itself (done None)
request_leads None (Some bytes) cut = absurd cut
request_leads (Some told) None cut = absurd cut
request_leads (Some told) (Some bytes) cut = then_leads _ _ _ _ (head_leads told bytes cut) (λ head. leads_itself (done (Some head)))

-- the decision over the documents that were fetched says no more than that over those that are told
pub fetched_leads : (c : Admit) (told docs : Documents) → docs.keys ≡ take (limit + 1) told.keys → docs.records ≡ take (limit + 1) told.records → IsCut told.request docs.request → Leads (decision c docs) (decision c told)
unfolding decision keys_decision request_decision records_table keys_table
fetched_leads c told docs keys records request =
    then_leads _ _ _ _ (named_leads (bad document.Records) _ _ (then_leads _ _ _ _ (text_leads told.records docs.records records) (λ text. leads_itself _))) (λ rs.
    then_leads _ _ _ _ (named_leads (bad document.Keys) _ _ (then_leads _ _ _ _ (text_leads told.keys docs.keys keys) (λ text. leads_itself _))) (λ ring.
    then_leads _ _ _ _ (named_leads (bad document.Request) _ _ (request_leads told.request docs.request request)) (λ head.
    leads_itself _)))

-- ---- what a head answers

values_same : (name : List ℕ) (fields : List RequestField) → values_of name fields ≡ values_under name (map field_view fields)
values_same name [] = refl
values_same name (f ∷ fields) =
    elim (cases_Bool (str_eq_ignore_ascii_case (string_bytes f.name) name)) [
      | inl e ↦ rw e (ap (λ (l : List (List ℕ)). f.value.items ∷ l) (values_same name fields))
      | inr e ↦ rw e (values_same name fields)
    ]

-- a head that was read answers what its view does
pub answers_same : (head : RequestHead) → request_of head_answer head_method head_target head ≡ asked_of (Some (head_view head))
answers_same head = λ i. record {
  answer = λ name. values_answer name (values_same name head.fields.items i);
  method = head_method head;
  target = head_target head;
}
