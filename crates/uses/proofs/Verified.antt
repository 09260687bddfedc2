-- What a verifier with a key, a request and a moment says, in words.
use Rattle.std.proofs.Common.{◌≡◌, ℕ, List, Some, None, Result, Ok, Err, IfErr, refl, ap, ◌∙◌, subst}
use Rattle.std.specs.Prelude.{⊤, OnOk}
use Rattle.picky_contract.specs.Refusals.{Meets, OkOrMemory}
use Rattle.picky_contract.specs.laws.Tables.{leads_meets, found, complete}
use Rattle.picky_key_der.specs.declared.public.PublicKeyKind.{PublicKeyKind}
use Rattle.picky_key.specs.declared.algorithm.SignatureAlgorithm.{SignatureAlgorithm}
use Rattle.picky_key.specs.Signatures.{Relation}
use Rattle.picky_http_request.specs.Answers.{Answer}
use Rattle.picky_http.specs.declared.error.HttpSignatureError.{HttpSignatureError}
use Rattle.picky_http.specs.Faults.{http_fault}
use Rattle.picky_http.specs.Lines.{Request, request_of}
use Rattle.picky_http.specs.Reading.{Reading}
use Rattle.picky_http.specs.Verifying.{checked_table, rows_table, signed_table, verify_table, answers_of, asked_of, Setup, Using}
use Rattle.picky_http.specs.laws.Verifying.{verified_is_checked, checked_exact, to_message, from_message, to_fits, from_fits, to_force, from_force, to_begun, from_begun}
use Rattle.uses.specs.Requests.{IsSignatureOf}

-- a verifier of this reading, where a key, a request and a moment are set
abbrev pub setup : {Q : Type 0} → Reading → Using → Q → ℕ → Setup Q
setup r m q now = record { reading = r; now = Some now; leeway = 30; method = Some m; way = Some (asked_of q) }

-- what the calls on it set
pub set_up : {Q : Type 0} (a b d e f : Setup Q) (r : Reading) (m : Using) (q : Q) (now : ℕ) → a ≡ record { reading = r; now = None; leeway = 0; method = None; way = None }
    → b ≡ record a { now = Some now } → d ≡ record b { leeway = 30 } → e ≡ record d { method = Some m } → f ≡ record e { way = Some (asked_of q) } → f ≡ setup r m q now
set_up {Q = Q} a b d e f r m q now new timed allowed method way =
    way ∙ ap (λ (s : Setup Q). let t : Setup Q = record s { way = Some (asked_of q) } in t)
    (method ∙ ap (λ (s : Setup Q). let t : Setup Q = record s { method = Some m } in t)
    (allowed ∙ ap (λ (s : Setup Q). let t : Setup Q = record s { leeway = 30 } in t)
    (timed ∙ ap (λ (s : Setup Q). let t : Setup Q = record s { now = Some now } in t) new)))

module _ (signs : Relation) (key : PublicKeyKind) (algorithm : SignatureAlgorithm) (now : ℕ) (asked : Request) (r : Reading) where
  to_words : (checked_table signs key algorithm (answers_of asked) (Some now) 30 r).holds tt → IsSignatureOf signs key algorithm now asked r
  unfolding rows_table signed_table
  to_words (v, fits, (w, lasts, (x, started, (message, of_request, (signature, spelled, vouched))))) = record {
    fits = to_fits key algorithm r.algorithm fits;
    lasts = to_force (Some now) 30 r.expires lasts;
    started = to_begun (Some now) 30 r.created started;
    message = message;
    of_request = to_message asked r message of_request;
    signature = signature;
    spelled = spelled;
    vouched = vouched;
  }

  from_words : IsSignatureOf signs key algorithm now asked r → (checked_table signs key algorithm (answers_of asked) (Some now) 30 r).holds tt
  unfolding rows_table signed_table
  from_words h =
      let fits = from_fits key algorithm r.algorithm h.fits in
      let lasts = from_force (Some now) 30 r.expires h.lasts in
      let started = from_begun (Some now) 30 r.created h.started in
      let of_request = from_message asked r h.message h.of_request in
      (tt, fits, (tt, lasts, (tt, started, (h.message, of_request, (h.signature, h.spelled, h.vouched)))))

on_ok : (result : Result ⊤ HttpSignatureError) (P : Type 0) → ((u : ⊤) → result ≡ Ok u → P) → OnOk result P
on_ok (Ok u) P h = h u refl
on_ok (Err e) P h = tt

on_err : (result : Result ⊤ HttpSignatureError) → OkOrMemory (λ u. u) http_fault result tt → IfErr result (λ e. http_fault e ≡ None)
on_err (Ok u) h = tt
on_err (Err e) h = h

module _ {Q : Type 0} (signs : Relation) (answer : Q → List ℕ → Answer) (method target : Q → Answer) (key : PublicKeyKind) (algorithm : SignatureAlgorithm) (now : ℕ) (q : Q) (r : Reading) (s : Setup Q) (result : Result ⊤ HttpSignatureError) where
  -- it says the rows from the algorithm on
  checked : s ≡ setup r (record { key = key; algorithm = algorithm }) q now → Meets (λ u. u) http_fault result (verify_table signs answer method target s)
      → Meets (λ u. u) http_fault result (checked_table signs key algorithm (answers_of (request_of answer method target q)) (Some now) 30 r)
  checked is said =
      leads_meets (λ u. u) http_fault result _ _ (verified_is_checked signs answer method target r (Some now) 30 (record { key = key; algorithm = algorithm }) q)
      (subst (λ (t : Setup Q). Meets (λ u. u) http_fault result (verify_table signs answer method target t)) is said)

  pub accepted : s ≡ setup r (record { key = key; algorithm = algorithm }) q now → Meets (λ u. u) http_fault result (verify_table signs answer method target s)
      → OnOk result (IsSignatureOf signs key algorithm now (request_of answer method target q) r)
  accepted is said =
      let asked = request_of answer method target q in
      let holds = found (λ u. u) http_fault result _ (checked_exact signs key algorithm (answers_of asked) (Some now) 30 r) (checked is said) in
      turned result holds
    where
      turned : (o : Result ⊤ HttpSignatureError) → OnOk o ((checked_table signs key algorithm (answers_of (request_of answer method target q)) (Some now) 30 r).holds tt) → OnOk o (IsSignatureOf signs key algorithm now (request_of answer method target q) r)
      turned (Ok u) h = to_words signs key algorithm now (request_of answer method target q) r h
      turned (Err e) h = tt

  pub only_memory : s ≡ setup r (record { key = key; algorithm = algorithm }) q now → Meets (λ u. u) http_fault result (verify_table signs answer method target s)
      → IsSignatureOf signs key algorithm now (request_of answer method target q) r → IfErr result (λ e. http_fault e ≡ None)
  only_memory is said h =
      let asked = request_of answer method target q in
      on_err result (complete (λ u. u) http_fault result _ (checked_exact signs key algorithm (answers_of asked) (Some now) 30 r) (checked is said) tt (from_words signs key algorithm now asked r h))
