-- The table of a text says the same as its reading.
use Rattle.std.proofs.Common.{◌<◌, ℕ, List, Some, refl, ap, subst, sym, ◌∙◌}
use Rattle.serde_json.specs.Data.{Data}
use Rattle.picky_contract.specs.laws.Tables.{Exact, the_exact, need_exact, done_exact, then_exact, named_exact}
use Rattle.picky_key.specs.Signatures.{Relation}
use Rattle.picky_jose.specs.Claims.{IsItself, claims_table, told_table}
use Rattle.picky_jws_header.specs.Header.{Header}
use Rattle.picky_jose.specs.Refusals.{Reading, token_table}
use Rattle.picky_jose.specs.Signatures.{signed_table as vouched_table}
use Rattle.picky_jose.specs.Validator.{Validator}
use Rattle.picky_jose.specs.laws.Claims.{claims_exact, from_claims}
use Rattle.picky_jose.specs.laws.Readings.{token_exact, to_reading as to_token_reading, from_reading as from_token_reading}
use Rattle.picky_jose.specs.laws.Vouching.{signed_exact, signed_tells, signed_gives}
use Rattle.picky_gate.specs.declared.policy.Policy.{Policy}
use Rattle.picky_ring.specs.declared.ring.RingEntry.{RingEntry}
use Rattle.picky_ring.specs.TextMap.{TextMap}
use Rattle.picky_http.specs.Lines.{Request}
use Rattle.picky_http.specs.Refusals.{reading_table}
use Rattle.picky_http.specs.Verifying.{answers_of, checked_table, rows_table, signed_table}
use Rattle.picky_http.specs.laws.Readings.{reading_exact, to_reading, from_reading}
use Rattle.picky_http.specs.laws.Verifying.{to_message, from_message, to_fits, from_fits, to_force, from_force, to_begun, from_begun, checked_exact}
use Rattle.picky_gate.specs.Admissible.{Admission, token, request, NamedKey, IsKeyUnder, TokenAdmissible, HeaderAdmissible, SchemeAdmissible, Admissible}
use Rattle.picky_gate.specs.Refusals.{no_scheme, no_key, of_http, of_token, of_jws, unbuilt, claimed_table, judged_table, signed_token_table, bearer_table, header_table, scheme_table, admits_table}
use Rattle.picky_gate.specs.Scheme.{Scheme, bearer, header_text, IsScheme, dots_in}

-- ---- the table

-- claims that are read as they are
told_holds : (v : Validator) (payload : List ℕ) (c : Data) → (told_table IsItself v payload).holds c → (claims_table v payload).holds c
unfolding told_table
told_holds v payload c (t, claims, is) = subst (λ (d : Data). (claims_table v payload).holds d) (sym is) claims

claimed_exact : (v : Validator) (name : List ℕ) (header : Header) (payload : List ℕ) → Exact (claimed_table v name header payload)
unfolding claimed_table
claimed_exact v name header payload =
    then_exact _ _ (named_exact of_token (claims_table v payload) (claims_exact v payload)) (λ claims.
    done_exact (token name header claims))

judged_exact : (signs : Relation) (v : Validator) (text : List ℕ) (x : Reading) (key : NamedKey) → Exact (judged_table signs v text x key)
unfolding judged_table
judged_exact signs v text x key =
    then_exact _ _ (named_exact of_jws (vouched_table signs key.key x.header.alg text) (signed_exact signs key.key x.header.alg text)) (λ _.
    claimed_exact v key.name x.header x.payload)

module _ (signs : Relation) (ring : TextMap RingEntry) (policy : Policy) (asked : Request) where
  bearer_exact : (text : List ℕ) → Exact (bearer_table signs ring policy text)
  unfolding bearer_table signed_token_table
  bearer_exact text =
      then_exact _ _ (need_exact (dots_in text < 4) unbuilt) (λ _.
      then_exact _ _ (named_exact of_jws (token_table text) (token_exact text)) (λ x.
      then_exact _ _ (the_exact (IsKeyUnder ring x.header.kid) no_key) (λ key.
      judged_exact signs policy.validator text x key)))

  header_exact : (text : List ℕ) → Exact (header_table signs ring policy asked text)
  unfolding header_table
  header_exact text =
      then_exact _ _ (named_exact of_http (reading_table text) (reading_exact text)) (λ r.
      then_exact _ _ (the_exact (IsKeyUnder ring (Some r.key_id)) no_key) (λ key.
      then_exact _ _ (named_exact of_http (checked_table signs key.key key.algorithm (answers_of asked) policy.now policy.leeway r) (checked_exact signs key.key key.algorithm (answers_of asked) policy.now policy.leeway r)) (λ _.
      done_exact (request key.name key.algorithm r))))

  to_header : (text : List ℕ) (a : Admission) → (header_table signs ring policy asked text).holds a → HeaderAdmissible signs ring policy asked text a
  unfolding header_table rows_table signed_table
  to_header text a (r, reads, (key, named, (u, (v, fits, (w, lasts, (x, started, (message, signs_it, (signature, spelled, vouched))))), is))) = record {
    reading = r;
    reads = to_reading text r reads;
    key = key;
    named = named;
    fits = to_fits key.key key.algorithm r.algorithm fits;
    lasts = to_force policy.now policy.leeway r.expires lasts;
    started = to_begun policy.now policy.leeway r.created started;
    message = message;
    signs_it = to_message asked r message signs_it;
    signature = signature;
    spelled = spelled;
    vouched = vouched;
    is = is;
  }

  from_header : (text : List ℕ) (a : Admission) → HeaderAdmissible signs ring policy asked text a → (header_table signs ring policy asked text).holds a
  unfolding header_table rows_table signed_table
  from_header text a h =
      let fits = from_fits h.key.key h.key.algorithm h.reading.algorithm h.fits in
      let lasts = from_force policy.now policy.leeway h.reading.expires h.lasts in
      let started = from_begun policy.now policy.leeway h.reading.created h.started in
      let signs_it = from_message asked h.reading h.message h.signs_it in
      (h.reading, from_reading text h.reading h.reads, (h.key, h.named, (tt, (tt, fits, (tt, lasts, (tt, started, (h.message, signs_it, (h.signature, h.spelled, h.vouched))))), h.is)))

  scheme_exact : (scheme : Scheme) → Exact (scheme_table signs ring policy asked scheme)
  scheme_exact (bearer text) = bearer_exact text
  scheme_exact (header_text text) = header_exact text

  to_token : (text : List ℕ) (a : Admission) → (bearer_table signs ring policy text).holds a → TokenAdmissible signs ring policy text a
  unfolding bearer_table signed_token_table judged_table claimed_table claims_table
  to_token text a (u, few, (x, read, (key, named, (v, signed, (c, (w, can, (tree, are_claims, (y, free, (z, in_time, c_is)))), is))))) =
      let reads = to_token_reading x text read in
      record {
        signed = few;
        reading = x;
        reads = reads;
        key = key;
        named = named;
        vouched = signed_tells x text signs key.key x.header.alg reads signed;
        claims = tree;
        are_claims = are_claims;
        free = free;
        in_time = in_time;
        is = is ∙ ap (token key.name x.header) c_is;
      }

  from_token : (text : List ℕ) (a : Admission) → TokenAdmissible signs ring policy text a → (bearer_table signs ring policy text).holds a
  unfolding bearer_table signed_token_table judged_table claimed_table
  from_token text a h =
      let x = h.reading in
      let signed = (signed_exact signs h.key.key x.header.alg text).holds tt (signed_gives x text signs h.key.key x.header.alg h.reads h.vouched) in
      let claims = from_claims IsItself policy.validator x.payload h.claims (record { tree = h.claims; read = h.are_claims; free = h.free; dates = h.in_time; tells = refl }) in
      (tt, h.signed, (x, from_token_reading x text h.reads, (h.key, h.named, (tt, signed, (h.claims, told_holds policy.validator x.payload h.claims claims, h.is)))))

  to_kind : (scheme : Scheme) (a : Admission) → (scheme_table signs ring policy asked scheme).holds a → SchemeAdmissible signs ring policy asked scheme a
  to_kind (bearer text) a h = to_token text a h
  to_kind (header_text text) a h = to_header text a h

  from_kind : (scheme : Scheme) (a : Admission) → SchemeAdmissible signs ring policy asked scheme a → (scheme_table signs ring policy asked scheme).holds a
  from_kind (bearer text) a h = from_token text a h
  from_kind (header_text text) a h = from_header text a h

  pub admits_exact : (text : List ℕ) → Exact (admits_table signs ring policy asked text)
  unfolding admits_table
  admits_exact text = then_exact _ _ (the_exact (IsScheme text) no_scheme) (λ scheme. scheme_exact scheme)

  pub to_admissible : (text : List ℕ) (a : Admission) → (admits_table signs ring policy asked text).holds a → Admissible signs ring policy asked text a
  unfolding admits_table
  to_admissible text a (scheme, is, h) = record { scheme = scheme; of_scheme = is; admissible = to_kind scheme a h }

  pub from_admissible : (text : List ℕ) (a : Admission) → Admissible signs ring policy asked text a → (admits_table signs ring policy asked text).holds a
  unfolding admits_table
  from_admissible text a h = (h.scheme, h.of_scheme, from_kind h.scheme a h.admissible)
