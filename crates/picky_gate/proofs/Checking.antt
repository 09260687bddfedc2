-- What a verifier with a key, a request and a moment says, and the refusals of a header text.
use Rattle.std.proofs.Common.{◌≡◌, ℕ, List, Option, Some, None, Result, option_map, IfSome, inl, inr, refl, sym, ◌∙◌, ap, subst}
use Rattle.std.specs.Prelude.{⊤}
use Rattle.picky_contract.specs.Refusals.{Meets, the}
use Rattle.picky_contract.specs.laws.Tables.{leads_meets}
use Rattle.picky_key_der.specs.declared.public.PublicKeyKind.{PublicKeyKind}
use Rattle.picky_key.specs.declared.algorithm.SignatureAlgorithm.{SignatureAlgorithm}
use Rattle.picky_key.specs.Signatures.{Relation}
use Rattle.picky_http_request.specs.Answers.{Answer}
use Rattle.picky_http.specs.declared.error.HttpSignatureError.{HttpSignatureError}
use Rattle.picky_http.specs.Faults.{HttpFault, http_fault}
use Rattle.picky_http.specs.Lines.{Request, request_of}
use Rattle.picky_http.specs.Reading.{Reading}
use Rattle.picky_http.specs.Refusals.{reading_table}
use Rattle.picky_http.specs.Verifying.{checked_table, verify_table, answers_of, asked_of, Setup, Using}
use Rattle.picky_http.specs.laws.Verifying.{verified_is_checked}
use Rattle.picky_gate.specs.declared.policy.Policy.{Policy}
use Rattle.picky_ring.specs.declared.ring.RingEntry.{RingEntry}
use Rattle.picky_ring.specs.TextMap.{TextMap}
use Rattle.picky_gate.specs.Admissible.{NamedKey, IsKeyUnder}
use Rattle.picky_gate.specs.Refusals.{Cause, no_key, of_http, header_table}

-- a verifier of this reading, where a key, a request and a leeway are set, and a moment that may be absent
abbrev pub with_moment : {Q : Type 0} → Reading → Using → Q → ℕ → Option ℕ → Setup Q
with_moment r m q leeway now = record { reading = r; now = now; leeway = leeway; method = Some m; way = Some (asked_of q) }

-- what the calls on it set
pub set_up : {Q : Type 0} (a b d e : Setup Q) (r : Reading) (m : Using) (q : Q) (leeway : ℕ) → a ≡ record { reading = r; now = None; leeway = 0; method = None; way = None }
    → b ≡ record a { method = Some m } → d ≡ record b { way = Some (asked_of q) } → e ≡ record d { leeway = leeway } → e ≡ with_moment r m q leeway None
set_up {Q = Q} a b d e r m q leeway new method way last =
    last ∙ ap (λ (s : Setup Q). let t : Setup Q = record s { leeway = leeway } in t)
    (way ∙ ap (λ (s : Setup Q). let t : Setup Q = record s { way = Some (asked_of q) } in t)
    (method ∙ ap (λ (s : Setup Q). let t : Setup Q = record s { method = Some m } in t) new))

-- the same with the moment of a policy
pub at_moment : {Q : Type 0} (e f : Setup Q) (r : Reading) (m : Using) (q : Q) (leeway : ℕ) (now : Option ℕ) (n : ℕ) → e ≡ with_moment r m q leeway None → f ≡ record e { now = Some n } → now ≡ Some n → f ≡ with_moment r m q leeway now
at_moment {Q = Q} e f r m q leeway now n set more is =
    more ∙ ap (λ (s : Setup Q). let t : Setup Q = record s { now = Some n } in t) set ∙ ap (λ (o : Option ℕ). with_moment r m q leeway o) (sym is)

pub at_none : {Q : Type 0} (e : Setup Q) (r : Reading) (m : Using) (q : Q) (leeway : ℕ) (now : Option ℕ) → e ≡ with_moment r m q leeway None → now ≡ None → e ≡ with_moment r m q leeway now
at_none e r m q leeway now set is = set ∙ ap (λ (o : Option ℕ). with_moment r m q leeway o) (sym is)

-- it says the rows from the algorithm on
pub checked : {Q : Type 0} (signs : Relation) (answer : Q → List ℕ → Answer) (method target : Q → Answer) (s : Setup Q) (r : Reading) (key : PublicKeyKind) (algorithm : SignatureAlgorithm) (q : Q) (leeway : ℕ) (now : Option ℕ) (result : Result ⊤ HttpSignatureError)
    → s ≡ with_moment r (record { key = key; algorithm = algorithm }) q leeway now → Meets (λ u. u) http_fault result (verify_table signs answer method target s)
    → Meets (λ u. u) http_fault result (checked_table signs key algorithm (answers_of (request_of answer method target q)) now leeway r)
checked {Q = Q} signs answer method target s r key algorithm q leeway now result is said =
    leads_meets (λ u. u) http_fault result _ _ (verified_is_checked signs answer method target r now leeway (record { key = key; algorithm = algorithm }) q)
    (subst (λ (t : Setup Q). Meets (λ u. u) http_fault result (verify_table signs answer method target t)) is said)

-- a header text with a reading and a key, which isn't accepted
pub header_refuses : (signs : Relation) (ring : TextMap RingEntry) (policy : Policy) (asked : Request) (text : List ℕ) (r : Reading) (key : NamedKey) (o : Option HttpFault) (cause : Option Cause)
    → (reading_table text).gives r → (the (IsKeyUnder ring (Some r.key_id)) no_key).gives key
    → IfSome o (checked_table signs key.key key.algorithm (answers_of asked) policy.now policy.leeway r).refuses → cause ≡ option_map of_http o
    → IfSome cause (header_table signs ring policy asked text).refuses
unfolding header_table
header_refuses signs ring policy asked text r key None cause reads named due is = subst (λ (c : Option Cause). IfSome c (header_table signs ring policy asked text).refuses) (sym is) tt
header_refuses signs ring policy asked text r key (Some f) cause reads named due is =
    subst (λ (c : Option Cause). IfSome c (header_table signs ring policy asked text).refuses) (sym is) (inr (r, reads, inr (key, named, inl (f, due, refl))))
