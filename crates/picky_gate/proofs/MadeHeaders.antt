-- Header texts that were made under a name of a ring are admissible.
use Rattle.std.proofs.Common.{◌≡◌, ℕ, ◌<◌, ◌^◌, Bool, true, false, IsTrue, List, [], ◌∷◌, length, Option, Some, IfSome, refl, sym, ◌∙◌, ap, subst, arith, inl, inr}
use Rattle.std.specs.List.{AllByRecursion}
use Rattle.picky_base64.specs.Base64.{B64}
use Rattle.picky_key_der.specs.declared.public.PublicKeyKind.{PublicKeyKind}
use Rattle.picky_key_private.specs.declared.private.PrivateKey.{PrivateKey}
use Rattle.picky_key.specs.declared.algorithm.SignatureAlgorithm.{SignatureAlgorithm}
use Rattle.picky_key.specs.Family.{is_of_family}
use Rattle.picky_key.specs.Signatures.{Relation}
use Rattle.picky_http_request.specs.Answers.{Answer}
use Rattle.picky_http.specs.Algorithms.{Algorithm, known}
use Rattle.picky_http.specs.Building.{Signer, SigningBy, Draft, asked_by, built, IsContent, IsBuilt}
use Rattle.picky_http.specs.Content.{Content, asked_content}
use Rattle.picky_http.specs.Lines.{Request, request_of, AreLines}
use Rattle.picky_http.specs.Parts.{covered}
use Rattle.picky_http.specs.Printing.{printed, IsBare, IsPlainPart, told_algorithm, as_told, IsTellable}
use Rattle.picky_http.specs.Reading.{Reading}
use Rattle.picky_http.specs.Signing.{Part, signing_string}
use Rattle.picky_http.specs.Verifying.{asked_of, AlgorithmFits, IsInForce, HasBegun, IsMessage, form_of}
use Rattle.picky_http.specs.laws.Told.{told_back, told_is}
use Rattle.picky_ring.specs.declared.ring.RingEntry.{RingEntry}
use Rattle.picky_ring.specs.TextMap.{TextMap}
use Rattle.picky_gate.specs.declared.policy.Policy.{Policy}
use Rattle.picky_gate.specs.Admissible.{request, Admissible, NamedKey, IsKeyUnder}
use Rattle.picky_gate.specs.Scheme.{header_text, IsHeader}

some_same : {X : Type 0} (x y : X) → Some x ≡ Some y → x ≡ y
some_same x y e = cc

is_header : (r : Reading) → IsHeader (printed r)
unfolding printed
is_header r = record { rest = _; joined = refl }

-- where some part is covered, the list is what is covered
list_covered : (parts : List Part) → 0 < length parts → covered parts ≡ parts
list_covered [] h = absurd (omega arith)
list_covered (p ∷ ps) h = refl

fits_told : (key : PublicKeyKind) (a : SignatureAlgorithm) (legacy : Bool) → IsTrue (is_of_family a key) → AlgorithmFits key a (told_algorithm legacy (Some (known a)))
fits_told key a true family = tt
fits_told key a false family = elim (told_is a) [
  | inl e ↦ subst (λ (x : Algorithm). AlgorithmFits key a (Some x)) (sym e) (refl, family)
  | inr e ↦ subst (λ (x : Algorithm). AlgorithmFits key a (Some x)) (sym e) tt
]

-- a reading over a request, signed under a key of the ring
pub made_admissible : (signs : Relation) (ring : TextMap RingEntry) (policy : Policy) (asked : Request) (key : NamedKey) (r : Reading) (message signed : List ℕ)
    → IsTrue (is_of_family key.algorithm key.key)
    → IsKeyUnder ring (Some r.key_id) key → IsTellable r key.algorithm → IsInForce policy.now policy.leeway r.expires → HasBegun policy.now policy.leeway r.created
    → IsMessage asked r message → B64 (form_of r.legacy) r.signature signed → signs key.key key.algorithm message signed
    → Admissible signs ring policy asked (printed r) (request key.name key.algorithm (as_told r))
made_admissible signs ring policy asked key r message signed family named tellable lasts started signs_it spelled vouched =
    record {
      scheme = header_text (printed r);
      of_scheme = (refl, is_header r);
      admissible = record {
        reading = as_told r;
        reads = told_back r key.algorithm tellable;
        key = key;
        named = named;
        fits = subst (λ (x : Option Algorithm). AlgorithmFits key.key key.algorithm (told_algorithm r.legacy x)) (sym tellable.algorithm) (fits_told key.key key.algorithm r.legacy family);
        lasts = lasts;
        started = started;
        message = message;
        signs_it = record { lines = signs_it.lines; are_lines = signs_it.are_lines; is = signs_it.is };
        signature = signed;
        spelled = spelled;
        vouched = vouched;
        is = refl;
      };
    }

-- ---- what is built

-- what a builder signs over a request: its parts with their lines
record IsAsked (asked : Request) (r : Reading) (message : List ℕ) : Type 0 where
  some : 0 < length r.headers
  message_is : IsMessage asked r message

built_asked : {Q : Type 0} (answer : Q → List ℕ → Answer) (method target : Q → Answer) (d : Draft Q) (q : Q) (key_id text : List ℕ) (a : SignatureAlgorithm) (c : Content)
    → IsContent answer method target d (asked_of q) c → IsAsked (request_of answer method target q) (built key_id c text a d.legacy) c.message
built_asked answer method target d q key_id text a c h =
    let asked = asked_by (request_of answer method target q) d in
    let direct : IsAsked (request_of answer method target q) (built key_id (asked_content asked d.headers (signing_string h.answered)) text a d.legacy) (signing_string h.answered) = record {
      some = h.some;
      message_is = record {
        lines = h.answered;
        are_lines = subst (λ ps. AreLines asked ps h.answered) (sym (list_covered d.headers h.some)) h.are_lines;
        is = refl;
      };
    } in
    subst (λ (x : Content). IsAsked (request_of answer method target q) (built key_id x text a d.legacy) x.message) (sym h.is) direct

pub built_admissible : {Q : Type 0} (signs : Relation) (sign_of : Signer) (public_of : PrivateKey → Option PublicKeyKind) (answer : Q → List ℕ → Answer) (method target : Q → Answer)
    → ((k : PublicKeyKind) (a : SignatureAlgorithm) (m s : List ℕ) → signs k a m s → IsTrue (is_of_family a k))
    → ((k : PrivateKey) (a : SignatureAlgorithm) (m s : List ℕ) → sign_of k a m ≡ Some s → (x : PublicKeyKind) × (public_of k ≡ Some x) × signs x a m s)
    → (ring : TextMap RingEntry) (policy : Policy) (q : Q) (d : Draft Q) (r : Reading) (by : SigningBy) (key : NamedKey)
    → IsBuilt sign_of answer method target d r → d.method ≡ Some by → d.way ≡ Some (asked_of q)
    → public_of by.key ≡ Some key.key → by.algorithm ≡ key.algorithm → IsKeyUnder ring (Some r.key_id) key
    → IsBare r.key_id → AllByRecursion IsPlainPart r.headers → IfSome r.created (λ n. n < 2 ^ 64) → IfSome r.expires (λ n. n < 2 ^ 64)
    → IsInForce policy.now policy.leeway r.expires → HasBegun policy.now policy.leeway r.created
    → Admissible signs ring policy (request_of answer method target q) (printed r) (request key.name key.algorithm (as_told r))
built_admissible signs sign_of public_of answer method target in_family sign_signs ring policy q d r by key b method_is way_is public_is algorithm_is named bare plain created expires lasts started =
    let by_is : b.by ≡ by = some_same b.by by (sym b.is_by ∙ method_is) in
    let at_way : b.way ≡ asked_of q = some_same b.way (asked_of q) (sym b.is_way ∙ way_is) in
    let content : IsContent answer method target d (asked_of q) b.content = subst (λ w. IsContent answer method target d w b.content) at_way b.is_content in
    let asked = subst (λ (x : Reading). IsAsked (request_of answer method target q) x b.content.message) (sym b.is) (built_asked answer method target d q r.key_id r.signature b.by.algorithm b.content content) in
    let given : sign_of by.key by.algorithm b.content.message ≡ Some b.signed = subst (λ (x : SigningBy). sign_of x.key x.algorithm b.content.message ≡ Some b.signed) by_is b.is_signed in
    let (x, x_is, x_signs) = sign_signs by.key by.algorithm b.content.message b.signed given in
    let same : x ≡ key.key = some_same x key.key (sym x_is ∙ public_is) in
    let vouched : signs key.key key.algorithm b.content.message b.signed =
    subst (λ a. signs key.key a b.content.message b.signed) algorithm_is (subst (λ k. signs k by.algorithm b.content.message b.signed) same x_signs) in
    let legacy : d.legacy ≡ r.legacy = sym (ap (λ (y : Reading). y.legacy) b.is) in
    let spelled : B64 (form_of r.legacy) r.signature b.signed = subst (λ l. B64 (form_of l) r.signature b.signed) legacy b.spelled in
    let under : r.algorithm ≡ Some (known key.algorithm) =
    ap (λ (y : Reading). y.algorithm) b.is ∙ ap (λ (y : SigningBy). Some (known y.algorithm)) by_is ∙ ap (λ a. Some (known a)) algorithm_is in
    let tellable : IsTellable r key.algorithm = record { key_id = bare; some = asked.some; parts = plain; created = created; expires = expires; signature = (b.signed, spelled); algorithm = under } in
    made_admissible signs ring policy (request_of answer method target q) key r b.content.message b.signed (in_family key.key key.algorithm b.content.message b.signed vouched) named tellable lasts started asked.message_is spelled vouched
