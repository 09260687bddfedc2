-- What is built: the rows say one thing and the same as the words, no number is missing, and a verifier accepts the value.
use Rattle.std.proofs.Common.{◌≡◌, ℕ, ◌<◌, Bool, true, false, List, [], ◌∷◌, length, Option, Some, None, is_some, Ok, Err, refl, sym, ap, subst, ◌∙◌, inl, inr, arith}
use Rattle.std.proofs.lemmas.Bool.{false≢true}
use Rattle.std.specs.Prelude.{IsTrue, ◌&&◌, codes}
use Rattle.std.specs.Str.Lines.{lines}
use Rattle.picky_contract.specs.laws.Tables.{Exact, the_exact, need_exact, done_exact, then_exact}
use Rattle.picky_base64.specs.Base64.{B64}
use Rattle.picky_key_der.specs.declared.public.PublicKeyKind.{PublicKeyKind}
use Rattle.picky_key_private.specs.declared.private.PrivateKey.{PrivateKey}
use Rattle.picky_key.specs.declared.algorithm.SignatureAlgorithm.{SignatureAlgorithm}
use Rattle.picky_key.specs.Family.{is_of_family}
use Rattle.picky_key.specs.Signatures.{Relation, none_given}
use Rattle.picky_http_request.specs.Answers.{Answer}
use Rattle.picky_http.specs.Building.{Signer, SigningBy, Draft, asked_by, built, IsContent, IsBuilt, IsAccepted, content_table, spelled_table, value_table, build_table}
use Rattle.picky_http.specs.Content.{Content, given_content, asked_content, IsAnswered, listed_table, given_table, asked_table}
use Rattle.picky_http.specs.Faults.{signature, missing_argument, missing_parameter, covers_nothing, covers_beside}
use Rattle.picky_http.specs.Given.{entries_table}
use Rattle.picky_http.specs.Lines.{Asked, Request, request_of, answered, counted, both, part_answer, AreLines, lines_table, text_table}
use Rattle.picky_http.specs.Numbered.{has_number, are_numbered}
use Rattle.picky_http.specs.Parts.{covered}
use Rattle.picky_http.specs.Reading.{Reading}
use Rattle.picky_http.specs.Signing.{Part, Named, Target, Created, Expires, signing_string}
use Rattle.picky_http.specs.Steps.{given}
use Rattle.picky_http.specs.Verifying.{Setup, Origin, given_as, asked_of, source_by, form_of, IsInForce, HasBegun, IsMessage, message_table, verify_table, rows_table, signed_table}
use Rattle.picky_http.specs.laws.Given.{entries_exact, to_entries, from_entries}
use Rattle.picky_http.specs.laws.Readings.{always_exact}
use Rattle.picky_http.specs.laws.Verifying.{text_exact, to_lines, from_lines, from_message, from_force, from_begun}

-- ---- the rows say one thing

listed_exact : (text : List ℕ) → Exact (listed_table text)
unfolding listed_table
listed_exact text = then_exact _ _ (entries_exact (lines text)) (λ entries. done_exact (given_content text entries))

given_exact : (headers : List Part) (text : List ℕ) → Exact (given_table headers text)
unfolding given_table
given_exact headers text = then_exact _ _ (need_exact (headers ≡ []) covers_beside) (λ _. listed_exact text)

asked_exact : (asked : Asked) (headers : List Part) → Exact (asked_table asked headers)
unfolding asked_table
asked_exact asked headers =
    then_exact _ _ (need_exact (0 < length headers) covers_nothing) (λ _.
    then_exact _ _ (text_exact asked headers) (λ message.
    done_exact (asked_content asked headers message)))

content_exact : {Q : Type 0} (answer : Q → List ℕ → Answer) (method target : Q → Answer) (d : Draft Q) (way : Origin Q) → Exact (content_table answer method target d way)
content_exact answer method target d (given_as text) = given_exact d.headers text
content_exact answer method target d (asked_of q) = asked_exact (asked_by (request_of answer method target q) d) d.headers

spelled_exact : (sign_of : Signer) (by : SigningBy) (message : List ℕ) (legacy : Bool) → Exact (spelled_table sign_of by message legacy)
unfolding spelled_table
spelled_exact sign_of by message legacy =
    then_exact _ _ (the_exact (λ (s : List ℕ). sign_of by.key by.algorithm message ≡ Some s) (signature none_given)) (λ signed.
    always_exact (λ (text : List ℕ). B64 (form_of legacy) text signed))

value_exact : (sign_of : Signer) (by : SigningBy) (key_id : List ℕ) (content : Content) (legacy : Bool) → Exact (value_table sign_of by key_id content legacy)
unfolding value_table
value_exact sign_of by key_id content legacy =
    then_exact _ _ (spelled_exact sign_of by content.message legacy) (λ text.
    done_exact (built key_id content text by.algorithm legacy))

pub build_exact : {Q : Type 0} (sign_of : Signer) (answer : Q → List ℕ → Answer) (method target : Q → Answer) (d : Draft Q) → Exact (build_table sign_of answer method target d)
unfolding build_table
build_exact {Q = Q} sign_of answer method target d =
    then_exact _ _ (the_exact (λ (m : SigningBy). d.method ≡ Some m) (missing_argument (codes "signature_method"))) (λ by.
    then_exact _ _ (the_exact (λ (k : List ℕ). d.key_id ≡ Some k) (missing_argument (codes "key_id"))) (λ key_id.
    then_exact _ _ (the_exact (λ (w : Origin Q). d.way ≡ Some w) (missing_argument (codes "signing_string_generation"))) (λ way.
    then_exact _ _ (content_exact answer method target d way) (λ content.
    value_exact sign_of by key_id content d.legacy))))

-- ---- the rows in words

to_content : {Q : Type 0} (answer : Q → List ℕ → Answer) (method target : Q → Answer) (d : Draft Q) (way : Origin Q) (c : Content)
    → (content_table answer method target d way).holds c → IsContent answer method target d way c
unfolding given_table listed_table asked_table text_table
to_content answer method target d (given_as text) c (u, alone, (entries, held, is)) = record { alone = alone; entries = entries; are = to_entries (lines text) entries held; is = is }
to_content answer method target d (asked_of q) c (u, some, (message, (answered, held, spelled), is)) =
    let asked = asked_by (request_of answer method target q) d in
    record { some = some; answered = answered; are_lines = to_lines asked d.headers answered held; is = is ∙ ap (asked_content asked d.headers) spelled }

from_content : {Q : Type 0} (answer : Q → List ℕ → Answer) (method target : Q → Answer) (d : Draft Q) (way : Origin Q) (c : Content)
    → IsContent answer method target d way c → (content_table answer method target d way).holds c
unfolding given_table listed_table asked_table text_table
from_content answer method target d (given_as text) c h = (tt, h.alone, (h.entries, from_entries (lines text) h.entries h.are, h.is))
from_content answer method target d (asked_of q) c h =
    let asked = asked_by (request_of answer method target q) d in
    (tt, h.some, (signing_string h.answered, (h.answered, from_lines asked d.headers h.answered h.are_lines, refl), h.is))

pub to_built : {Q : Type 0} (sign_of : Signer) (answer : Q → List ℕ → Answer) (method target : Q → Answer) (d : Draft Q) (r : Reading)
    → (build_table sign_of answer method target d).holds r → IsBuilt sign_of answer method target d r
unfolding build_table value_table spelled_table
to_built sign_of answer method target d r (by, is_by, (key_id, is_key, (way, is_way, (content, held, (text, (signed, is_signed, spelled), is))))) =
    let here : IsBuilt sign_of answer method target d (built key_id content text by.algorithm d.legacy) = record {
      by = by;
      is_by = is_by;
      key_id = is_key;
      way = way;
      is_way = is_way;
      content = content;
      is_content = to_content answer method target d way content held;
      signed = signed;
      is_signed = is_signed;
      spelled = spelled;
      is = refl;
    } in
    subst (IsBuilt sign_of answer method target d) (sym is) here

pub from_built : {Q : Type 0} (sign_of : Signer) (answer : Q → List ℕ → Answer) (method target : Q → Answer) (d : Draft Q) (r : Reading)
    → IsBuilt sign_of answer method target d r → (build_table sign_of answer method target d).holds r
unfolding build_table value_table spelled_table
from_built sign_of answer method target d r h =
    (h.by, h.is_by, (r.key_id, h.key_id, (h.way, h.is_way, (h.content, from_content answer method target d h.way h.content h.is_content, (r.signature, (h.signed, h.is_signed, h.spelled), h.is)))))

-- ---- no line lacks its number

and_true : (a b : Bool) → IsTrue (a && b) → IsTrue a × IsTrue b
and_true true b h = (refl, h)
and_true false b h = absurd (false≢true h)

name_answered : (a : Answer) (p : List ℕ) → (given (answered a)).refuses (missing_parameter p) → ⊥
name_answered (Ok text) p h = h
name_answered (Err fault) p h = cc

both_answered : (a b : Answer) (p : List ℕ) → (given (both a b)).refuses (missing_parameter p) → ⊥
both_answered (Err fault) b p h = cc
both_answered (Ok method) (Err fault) p h = cc
both_answered (Ok method) (Ok target) p h = h

number_counted : (name : List ℕ) (n : Option ℕ) (p : List ℕ) → IsTrue (is_some n) → (given (counted name n)).refuses (missing_parameter p) → ⊥
number_counted name None p there h = false≢true there
number_counted name (Some n) p there h = h

part_answered : (asked : Asked) (part : Part) (p : List ℕ) → IsTrue (has_number asked.created asked.expires part) → (given (part_answer asked part)).refuses (missing_parameter p) → ⊥
part_answered asked (Named name) p there h = name_answered (asked.request.answer name) p h
part_answered asked Target p there h = both_answered asked.request.method asked.request.target p h
part_answered asked Created p there h = number_counted (codes "created") asked.created p there h
part_answered asked Expires p there h = number_counted (codes "expires") asked.expires p there h

lines_numbered : (asked : Asked) (parts : List Part) (p : List ℕ) → IsTrue (are_numbered asked.created asked.expires parts) → (lines_table asked parts).refuses (missing_parameter p) → ⊥
lines_numbered asked [] p there h = h
lines_numbered asked (part ∷ parts) p there (inl h) =
    part_answered asked part p (and_true (has_number asked.created asked.expires part) (are_numbered asked.created asked.expires parts) there).0 h
lines_numbered asked (part ∷ parts) p there (inr (answer, said, inl h)) =
    lines_numbered asked parts p (and_true (has_number asked.created asked.expires part) (are_numbered asked.created asked.expires parts) there).1 h
lines_numbered asked (part ∷ parts) p there (inr (answer, said, inr (rest, gives, h))) = h

entries_numbered : (lines : List (List ℕ)) (p : List ℕ) → (entries_table lines).refuses (missing_parameter p) → ⊥
entries_numbered [] p h = h
entries_numbered (line ∷ lines) p (inl h) = let e = h.0 in cc
entries_numbered (line ∷ lines) p (inr (entry, is, inl h)) = entries_numbered lines p h
entries_numbered (line ∷ lines) p (inr (entry, is, inr (rest, gives, h))) = h

content_numbered : {Q : Type 0} (answer : Q → List ℕ → Answer) (method target : Q → Answer) (d : Draft Q) (way : Origin Q) (p : List ℕ)
    → IsTrue (are_numbered d.created d.expires d.headers) → (content_table answer method target d way).refuses (missing_parameter p) → ⊥
unfolding given_table listed_table asked_table text_table
content_numbered answer method target d (given_as text) p there (inl h) = let e = h.0 in cc
content_numbered answer method target d (given_as text) p there (inr (u, alone, inl h)) = entries_numbered (lines text) p h
content_numbered answer method target d (given_as text) p there (inr (u, alone, inr (entries, gives, h))) = h
content_numbered answer method target d (asked_of q) p there (inl h) = let e = h.0 in cc
content_numbered answer method target d (asked_of q) p there (inr (u, some, inl (inl h))) = lines_numbered (asked_by (request_of answer method target q) d) d.headers p there h
content_numbered answer method target d (asked_of q) p there (inr (u, some, inl (inr (ls, gives, h)))) = h
content_numbered answer method target d (asked_of q) p there (inr (u, some, inr (message, gives, h))) = h

pub build_numbered : {Q : Type 0} (sign_of : Signer) (answer : Q → List ℕ → Answer) (method target : Q → Answer) (d : Draft Q) (p : List ℕ)
    → IsTrue (are_numbered d.created d.expires d.headers) → (build_table sign_of answer method target d).refuses (missing_parameter p) → ⊥
unfolding build_table value_table spelled_table
build_numbered sign_of answer method target d p there (inl h) = let e = h.0 in cc
build_numbered sign_of answer method target d p there (inr (by, is_by, inl h)) = let e = h.0 in cc
build_numbered sign_of answer method target d p there (inr (by, is_by, inr (key_id, is_key, inl h))) = let e = h.0 in cc
build_numbered sign_of answer method target d p there (inr (by, is_by, inr (key_id, is_key, inr (way, is_way, inl h)))) = content_numbered answer method target d way p there h
build_numbered sign_of answer method target d p there (inr (by, is_by, inr (key_id, is_key, inr (way, is_way, inr (content, is, inl (inl h)))))) = let e = h.0 in cc
build_numbered sign_of answer method target d p there (inr (by, is_by, inr (key_id, is_key, inr (way, is_way, inr (content, is, inl (inr (signed, gives, h))))))) = h
build_numbered sign_of answer method target d p there (inr (by, is_by, inr (key_id, is_key, inr (way, is_way, inr (content, is, inr (text, gives, h)))))) = h

-- ---- a verifier

some_same : {X : Type 0} (x y : X) → Some x ≡ Some y → x ≡ y
some_same x y e = cc

covered_same : (parts : List Part) → 0 < length parts → covered parts ≡ parts
covered_same [] some = absurd (omega arith)
covered_same (part ∷ parts) some = refl

-- over a request the signed bytes are the signing string of the value's lines, and the signature spells what signing gives for them
pub record IsSignedOver (sign_of : Signer) (by : SigningBy) (q : Request) (r : Reading) : Type 0 where
  pub message : List ℕ
  pub is_message : IsMessage q r message
  pub signed : List ℕ
  pub is_signed : sign_of by.key by.algorithm message ≡ Some signed
  pub spelled : B64 (form_of r.legacy) r.signature signed

answered_message : (q : Request) (headers : List Part) (created expires : Option ℕ) (c : Content) (key_id text : List ℕ) (algorithm : SignatureAlgorithm) (legacy : Bool)
    → IsAnswered (record { request = q; created = created; expires = expires }) headers c → IsMessage q (built key_id c text algorithm legacy) c.message
answered_message q headers created expires c key_id text algorithm legacy h =
    let asked : Asked = record { request = q; created = created; expires = expires } in
    let there : Content = asked_content asked headers (signing_string h.answered) in
    let here : IsMessage q (built key_id there text algorithm legacy) there.message = record {
      lines = h.answered;
      are_lines = subst (λ (ps : List Part). AreLines asked ps h.answered) (sym (covered_same headers h.some)) h.are_lines;
      is = refl;
    } in
    subst (λ (x : Content). IsMessage q (built key_id x text algorithm legacy) x.message) (sym h.is) here

-- the verifier's signed bytes are those that were signed
content_message : {Q : Type 0} (answer : Q → List ℕ → Answer) (method target : Q → Answer) (d : Draft Q) (way : Origin Q) (c : Content) (key_id text : List ℕ) (algorithm : SignatureAlgorithm) (legacy : Bool)
    → IsContent answer method target d way c → (message_table (source_by answer method target way) (built key_id c text algorithm legacy)).holds c.message
content_message answer method target d (given_as bytes) c key_id text algorithm legacy h = ap (λ (x : Content). x.message) h.is
content_message answer method target d (asked_of q) c key_id text algorithm legacy h =
    from_message (request_of answer method target q) (built key_id c text algorithm legacy) c.message
    (answered_message (request_of answer method target q) d.headers d.created d.expires c key_id text algorithm legacy h)

pub built_over : {Q : Type 0} (sign_of : Signer) (answer : Q → List ℕ → Answer) (method target : Q → Answer) (d : Draft Q) (r : Reading) (q : Q) (by : SigningBy)
    → d.way ≡ Some (asked_of q) → d.method ≡ Some by → IsBuilt sign_of answer method target d r → IsSignedOver sign_of by (request_of answer method target q) r
built_over sign_of answer method target d r q by is_way is_by h =
    let way = some_same h.way (asked_of q) (sym h.is_way ∙ is_way) in
    let using = some_same h.by by (sym h.is_by ∙ is_by) in
    let content : IsContent answer method target d (asked_of q) h.content = subst (λ w. IsContent answer method target d w h.content) way h.is_content in
    let message = answered_message (request_of answer method target q) d.headers d.created d.expires h.content r.key_id r.signature h.by.algorithm d.legacy content in
    record {
      message = h.content.message;
      is_message = subst (λ (x : Reading). IsMessage (request_of answer method target q) x h.content.message) (sym h.is) message;
      signed = h.signed;
      is_signed = subst (λ (b : SigningBy). sign_of b.key b.algorithm h.content.message ≡ Some h.signed) using h.is_signed;
      spelled = subst (λ (b : Bool). B64 (form_of b) r.signature h.signed) (sym (ap (λ (x : Reading). x.legacy) h.is)) h.spelled;
    }

-- what a provider's laws say of its signatures
pub record Vouches (signs : Relation) (public_of : PrivateKey → Option PublicKeyKind) (sign_of : Signer) : Type 0 where
  pub in_family : (key : PublicKeyKind) (a : SignatureAlgorithm) (m s : List ℕ) → signs key a m s → IsTrue (is_of_family a key)
  pub signs_own : (k : PrivateKey) (a : SignatureAlgorithm) (m s : List ℕ) → sign_of k a m ≡ Some s → (key : PublicKeyKind) × (public_of k ≡ Some key) × signs key a m s

own_signature : (signs : Relation) (public_of : PrivateKey → Option PublicKeyKind) (sign_of : Signer) (k : PrivateKey) (a : SignatureAlgorithm) (m s : List ℕ) (key : PublicKeyKind)
    → Vouches signs public_of sign_of → sign_of k a m ≡ Some s → public_of k ≡ Some key → signs key a m s
own_signature signs public_of sign_of k a m s key laws e p =
    let own = laws.signs_own k a m s e in
    subst (λ (x : PublicKeyKind). signs x a m s) (some_same own.0 key (sym own.1 ∙ p)) own.2

-- what is set in a verifier
abbrev setup : {Q : Type 0} → Reading → Option ℕ → ℕ → PublicKeyKind → SigningBy → Origin Q → Setup Q
setup r now leeway key by way = record { reading = r; now = now; leeway = leeway; method = Some (record { key = key; algorithm = by.algorithm }); way = Some way }

pub built_accepted : {Q : Type 0} (signs : Relation) (public_of : PrivateKey → Option PublicKeyKind) (sign_of : Signer) (answer : Q → List ℕ → Answer) (method target : Q → Answer) (d : Draft Q) (r : Reading)
    → Vouches signs public_of sign_of → IsBuilt sign_of answer method target d r → IsAccepted signs public_of answer method target d r
unfolding verify_table rows_table signed_table
built_accepted {Q = Q} signs public_of sign_of answer method target d r laws h by key way now leeway is_by is_key is_way force begun =
    let same = some_same h.by by (sym h.is_by ∙ is_by) in
    let place = some_same h.way way (sym h.is_way ∙ is_way) in
    let made = built r.key_id h.content r.signature h.by.algorithm d.legacy in
    let own = own_signature signs public_of sign_of h.by.key h.by.algorithm h.content.message h.signed key laws h.is_signed (subst (λ (b : SigningBy). public_of b.key ≡ Some key) (sym same) is_key) in
    let family = laws.in_family key h.by.algorithm h.content.message h.signed own in
    let message = content_message answer method target d h.way h.content r.key_id r.signature h.by.algorithm d.legacy h.is_content in
    let ends = from_force now leeway made.expires (subst (λ (x : Reading). IsInForce now leeway x.expires) h.is force) in
    let begins = from_begun now leeway made.created (subst (λ (x : Reading). HasBegun now leeway x.created) h.is begun) in
    let here : (verify_table signs answer method target (setup made now leeway key h.by h.way)).holds tt =
    (record { key = key; algorithm = h.by.algorithm }, refl, (tt, (refl, family), (h.way, refl, (tt, ends, (tt, begins, (h.content.message, message, (h.signed, h.spelled, own))))))) in
    let by_value = subst (λ (x : Reading). (verify_table signs answer method target (setup x now leeway key h.by h.way)).holds tt) (sym h.is) here in
    let by_key = subst (λ (b : SigningBy). (verify_table signs answer method target (setup r now leeway key b h.way)).holds tt) same by_value in
    subst (λ (w : Origin Q). (verify_table signs answer method target (setup r now leeway key by w)).holds tt) place by_key
