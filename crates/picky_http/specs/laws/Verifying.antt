-- The rows of a signature say one thing, and a verifier with a key and a request answers them.
use Rattle.std.proofs.Common.{◌≡◌, ◌≤◌, ◌+◌, ℕ, List, [], ◌∷◌, Option, Some, None, Ok, Err, refl, sym, ap, ◌∙◌, subst, inl, inr}
use Rattle.std.specs.Prelude.{IsTrue, codes}
use Rattle.picky_contract.specs.Refusals.{Table, the, ◌>>=◌}
use Rattle.picky_contract.specs.laws.Tables.{Exact, the_exact, need_exact, done_exact, then_exact, named_exact, Leads, leads_itself, then_leads}
use Rattle.picky_base64.specs.Base64.{B64}
use Rattle.picky_key_der.specs.declared.public.PublicKeyKind.{PublicKeyKind}
use Rattle.picky_key.specs.declared.algorithm.SignatureAlgorithm.{SignatureAlgorithm}
use Rattle.picky_key.specs.Family.{is_of_family}
use Rattle.picky_key.specs.Signatures.{Relation, vouched_table, bad}
use Rattle.picky_http_request.specs.Answers.{Answer}
use Rattle.picky_http.specs.Algorithms.{Algorithm, known, custom}
use Rattle.picky_http.specs.Faults.{not_base64, not_yet_valid, expired, signature, missing_argument, incompatible}
use Rattle.picky_http.specs.Lines.{Asked, Request, request_of, Said, part_answer, AreLines, lines_table, text_table}
use Rattle.picky_http.specs.Parts.{covered}
use Rattle.picky_http.specs.Reading.{Reading}
use Rattle.picky_http.specs.Signing.{Part, Line, signing_string}
use Rattle.picky_http.specs.Steps.{given}
use Rattle.picky_http.specs.Verifying.{Source, given_text, answers_of, AlgorithmFits, IsInForce, HasBegun, IsMessage, algorithm_table, expires_table, created_table, message_table, form_of, signed_table, rows_table, checked_table, Using, Setup, Origin, asked_of, source_by, verify_table}

-- ---- the signing string

given_exact : (said : Said) → Exact (given said)
given_exact (Ok text) = done_exact text
given_exact (Err fault) = record { holds = λ x h. h; one = λ x y h k. absurd h; apart = λ f y h k. k; only = λ f g h k. k ∙ sym h }

lines_exact : (asked : Asked) (parts : List Part) → Exact (lines_table asked parts)
lines_exact asked [] = done_exact []
lines_exact asked (part ∷ parts) =
    then_exact _ _ (given_exact (part_answer asked part)) (λ answer.
    then_exact _ _ (lines_exact asked parts) (λ lines.
    done_exact ((part, answer) ∷ lines)))

pub text_exact : (asked : Asked) (parts : List Part) → Exact (text_table asked parts)
unfolding text_table
text_exact asked parts = then_exact _ _ (lines_exact asked parts) (λ lines. done_exact (signing_string lines))

message_exact : (source : Source) (r : Reading) → Exact (message_table source r)
message_exact (given_text bytes) r = done_exact bytes
message_exact (answers_of q) r = text_exact (record { request = q; created = r.created; expires = r.expires }) (covered r.headers)

-- the lines that the table has are those of the parts, and the other way round
given_holds : (said : Said) (text : List ℕ) → said ≡ Ok text → (given said).holds text
given_holds said text e = subst (λ (s : Said). (given s).holds text) (sym e) refl

given_says : (said : Said) (text : List ℕ) → (given said).holds text → said ≡ Ok text
given_says (Ok said) text h = ap Ok (sym h)
given_says (Err fault) text h = absurd h

pub to_lines : (asked : Asked) (parts : List Part) (lines : List Line) → (lines_table asked parts).holds lines → AreLines asked parts lines
to_lines asked [] lines h = subst (λ (ls : List Line). AreLines asked [] ls) (sym h) tt
to_lines asked (part ∷ parts) lines (text, said, (rest, held, is)) =
    subst (λ (ls : List Line). AreLines asked (part ∷ parts) ls) (sym is) ((refl, given_says (part_answer asked part) text said), to_lines asked parts rest held)

pub from_lines : (asked : Asked) (parts : List Part) (lines : List Line) → AreLines asked parts lines → (lines_table asked parts).holds lines
from_lines asked [] [] h = refl
from_lines asked [] (l ∷ ls) h = absurd h
from_lines asked (p ∷ ps) [] h = absurd h
from_lines asked (p ∷ ps) (l ∷ ls) h = (l.1, given_holds (part_answer asked p) l.1 h.0.1, (ls, from_lines asked ps ls h.1, λ i. (h.0.0 i, l.1) ∷ ls))

-- a request's signed bytes are the signing string of its lines
pub to_message : (q : Request) (r : Reading) (message : List ℕ) → (message_table (answers_of q) r).holds message → IsMessage q r message
unfolding text_table
to_message q r message (lines, held, is) = record { lines = lines; are_lines = to_lines _ _ lines held; is = is }

pub from_message : (q : Request) (r : Reading) (message : List ℕ) → IsMessage q r message → (message_table (answers_of q) r).holds message
unfolding text_table
from_message q r message m = (m.lines, from_lines _ _ m.lines m.are_lines, m.is)

-- ---- the rows in words

pub to_fits : (key : PublicKeyKind) (algorithm : SignatureAlgorithm) (o : Option Algorithm) → (algorithm_table key algorithm o).holds tt → AlgorithmFits key algorithm o
to_fits key algorithm None h = tt
to_fits key algorithm (Some (custom text)) h = tt
to_fits key algorithm (Some (known a)) h = h

pub from_fits : (key : PublicKeyKind) (algorithm : SignatureAlgorithm) (o : Option Algorithm) → AlgorithmFits key algorithm o → (algorithm_table key algorithm o).holds tt
from_fits key algorithm None h = refl
from_fits key algorithm (Some (custom text)) h = refl
from_fits key algorithm (Some (known a)) h = h

pub to_force : (now : Option ℕ) (leeway : ℕ) (o : Option ℕ) → (expires_table now leeway o).holds tt → IsInForce now leeway o
to_force now leeway None h = tt
to_force now leeway (Some expires) h = h

pub from_force : (now : Option ℕ) (leeway : ℕ) (o : Option ℕ) → IsInForce now leeway o → (expires_table now leeway o).holds tt
from_force now leeway None h = refl
from_force now leeway (Some expires) h = h

pub to_begun : (now : Option ℕ) (leeway : ℕ) (o : Option ℕ) → (created_table now leeway o).holds tt → HasBegun now leeway o
to_begun now leeway None h = tt
to_begun now leeway (Some created) h = h

pub from_begun : (now : Option ℕ) (leeway : ℕ) (o : Option ℕ) → HasBegun now leeway o → (created_table now leeway o).holds tt
from_begun now leeway None h = refl
from_begun now leeway (Some created) h = h

-- ---- the rows

algorithm_exact : (key : PublicKeyKind) (algorithm : SignatureAlgorithm) (o : Option Algorithm) → Exact (algorithm_table key algorithm o)
algorithm_exact key algorithm None = done_exact tt
algorithm_exact key algorithm (Some (custom text)) = done_exact tt
algorithm_exact key algorithm (Some (known a)) = need_exact ((a ≡ algorithm) × IsTrue (is_of_family a key)) (incompatible a)

expires_exact : (now : Option ℕ) (leeway : ℕ) (o : Option ℕ) → Exact (expires_table now leeway o)
expires_exact now leeway None = done_exact tt
expires_exact now leeway (Some expires) =
    then_exact _ _ (the_exact (λ (m : ℕ). now ≡ Some m) (missing_argument (codes "now"))) (λ moment.
    need_exact (moment ≤ expires + leeway) (expired expires moment))

created_exact : (now : Option ℕ) (leeway : ℕ) (o : Option ℕ) → Exact (created_table now leeway o)
created_exact now leeway None = done_exact tt
created_exact now leeway (Some created) =
    then_exact _ _ (the_exact (λ (m : ℕ). now ≡ Some m) (missing_argument (codes "now"))) (λ moment.
    need_exact (created ≤ moment + leeway) (not_yet_valid created moment))

signed_exact : (signs : Relation) (key : PublicKeyKind) (algorithm : SignatureAlgorithm) (message : List ℕ) (r : Reading) → Exact (signed_table signs key algorithm message r)
unfolding signed_table
signed_exact signs key algorithm message r =
    then_exact _ _ (the_exact (B64 (form_of r.legacy) r.signature) not_base64) (λ bytes.
    named_exact signature (vouched_table signs key algorithm message bytes) (need_exact (signs key algorithm message bytes) bad))

rows_exact : (signs : Relation) (key : PublicKeyKind) (algorithm : SignatureAlgorithm) (source : Source) (now : Option ℕ) (leeway : ℕ) (r : Reading) → Exact (rows_table signs key algorithm source now leeway r)
unfolding rows_table
rows_exact signs key algorithm source now leeway r =
    then_exact _ _ (expires_exact now leeway r.expires) (λ _.
    then_exact _ _ (created_exact now leeway r.created) (λ _.
    then_exact _ _ (message_exact source r) (λ message.
    signed_exact signs key algorithm message r)))

pub checked_exact : (signs : Relation) (key : PublicKeyKind) (algorithm : SignatureAlgorithm) (source : Source) (now : Option ℕ) (leeway : ℕ) (r : Reading) → Exact (checked_table signs key algorithm source now leeway r)
checked_exact signs key algorithm source now leeway r =
    then_exact _ _ (algorithm_exact key algorithm r.algorithm) (λ _.
    rows_exact signs key algorithm source now leeway r)

-- ---- a verifier

some_same : {X : Type 0} (x y : X) → Some x ≡ Some y → x ≡ y
some_same x y e = cc

-- what was set is there
set_leads : {X Y F : Type 0} (x : X) (f : F) (next : X → Table Y F) → Leads (the (λ (y : X). Some x ≡ Some y) f >>= next) (next x)
set_leads {X = X} {Y = Y} {F = F} x f next = record {
  gives = λ y h. subst (λ (z : X). (next z).gives y) (sym (some_same x h.0 h.1.0)) h.2;
  refuses = λ g h. elim h [
    | inl none ↦ absurd (none.1 x refl)
    | inr later ↦ subst (λ (z : X). (next z).refuses g) (sym (some_same x later.0 later.1.0)) later.2
  ];
}

both : {X F : Type 0} (s t u : Table X F) → Leads s t → Leads t u → Leads s u
both s t u a b = record { gives = λ x h. b.gives x (a.gives x h); refuses = λ f h. b.refuses f (a.refuses f h) }

-- what a verifier answers is one thing
pub verify_exact : {Q : Type 0} (signs : Relation) (answer : Q → List ℕ → Answer) (method target : Q → Answer) (s : Setup Q) → Exact (verify_table signs answer method target s)
unfolding verify_table
verify_exact {Q = Q} signs answer method target s =
    then_exact _ _ (the_exact (λ (m : Using). s.method ≡ Some m) (missing_argument (codes "signature_method"))) (λ m.
    then_exact _ _ (algorithm_exact m.key m.algorithm s.reading.algorithm) (λ _.
    then_exact _ _ (the_exact (λ (w : Origin Q). s.way ≡ Some w) (missing_argument (codes "signing_string_generation"))) (λ w.
    rows_exact signs m.key m.algorithm (source_by answer method target w) s.now s.leeway s.reading)))

-- a verifier with a key, an algorithm and a request answers the rows from the algorithm on
pub verified_is_checked : {Q : Type 0} (signs : Relation) (answer : Q → List ℕ → Answer) (method target : Q → Answer) (r : Reading) (now : Option ℕ) (leeway : ℕ) (m : Using) (q : Q)
    → Leads (verify_table signs answer method target (record { reading = r; now = now; leeway = leeway; method = Some m; way = Some (asked_of q) }))
    (checked_table signs m.key m.algorithm (answers_of (request_of answer method target q)) now leeway r)
unfolding verify_table
verified_is_checked {Q = Q} signs answer method target r now leeway m q =
    both _ _ _
    (set_leads m (missing_argument (codes "signature_method")) (λ (u : Using). algorithm_table u.key u.algorithm r.algorithm
    >>= λ _. the (λ (w : Origin Q). Some (asked_of q) ≡ Some w) (missing_argument (codes "signing_string_generation"))
    >>= λ w. rows_table signs u.key u.algorithm (source_by answer method target w) now leeway r))
    (then_leads _ _ _ _ (leads_itself _) (λ _.
    set_leads (asked_of q) (missing_argument (codes "signing_string_generation")) (λ (w : Origin Q). rows_table signs m.key m.algorithm (source_by answer method target w) now leeway r)))
