-- A text is admissible as one value at most: each step has one value at most.
use Rattle.std.proofs.Common.{◌≡◌, ◌<◌, ℕ, List, Option, Some, refl, sym, ap, ◌∙◌}
use Rattle.serde_json.specs.Data.{Data}
use Rattle.picky_contract.specs.laws.Tables.{Single, the_single, need_single, done_single, then_single, named_single}
use Rattle.picky_json.specs.laws.Trees.{tree_is_determined}
use Rattle.picky_key_der.specs.declared.public.PublicKeyKind.{PublicKeyKind}
use Rattle.picky_key.specs.declared.algorithm.SignatureAlgorithm.{SignatureAlgorithm}
use Rattle.picky_key.specs.Signatures.{Relation}
use Rattle.picky_jose.specs.Claims.{claims_table}
use Rattle.picky_jws_header.specs.Header.{Header}
use Rattle.picky_jose.specs.Refusals.{Reading, token_table}
use Rattle.picky_jose.specs.Signatures.{signed_table}
use Rattle.picky_jose.specs.Validator.{Validator}
use Rattle.picky_jose.specs.laws.Readings.{one_reading, to_reading as to_token_reading}
use Rattle.picky_http.specs.Lines.{Request}
use Rattle.picky_http.specs.Refusals.{reading_table}
use Rattle.picky_http.specs.Verifying.{answers_of, checked_table}
use Rattle.picky_http.specs.laws.Readings.{reading_same, to_reading}
use Rattle.picky_gate.specs.declared.policy.Policy.{Policy}
use Rattle.picky_ring.specs.declared.ring.RingEntry.{RingEntry}
use Rattle.picky_ring.specs.Entry.{verifying}
use Rattle.picky_ring.specs.TextMap.{TextMap}
use Rattle.picky_gate.specs.Admissible.{Admission, token, request, NamedKey, IsKeyUnder, Admissible}
use Rattle.picky_gate.specs.Refusals.{no_scheme, unbuilt, no_key, of_http, of_token, of_jws, claimed_table, judged_table, signed_token_table, bearer_table, header_table, scheme_table, admits_table}
use Rattle.picky_gate.specs.Scheme.{Scheme, bearer, header_text, IsScheme, dots_in}
use Rattle.picky_gate.proofs.Admitting.{from_admissible}
use Rattle.picky_gate.proofs.Schemes.{one_scheme}

one_key : (ring : TextMap RingEntry) (kid : Option (List ℕ)) (a b : NamedKey) → IsKeyUnder ring kid a → IsKeyUnder ring kid b → b ≡ a
one_key ring kid a b h k =
    let name : b.name ≡ a.name = cc (h.named, k.named) in
    let entry : k.entry ≡ h.entry = cc (name, h.found, k.found) in
    let checks : Some (b.key, b.algorithm) ≡ Some (a.key, a.algorithm) = sym k.checks ∙ ap verifying entry ∙ h.checks in
    let pair : ◌≡◌ {A = PublicKeyKind × SignatureAlgorithm} (b.key, b.algorithm) (a.key, a.algorithm) = cc checks in
    let key : b.key ≡ a.key = ap (λ p. p.0) pair in
    let algorithm : b.algorithm ≡ a.algorithm = ap (λ p. p.1) pair in
    λ i. record { name = name i; key = key i; algorithm = algorithm i }

one_claims : (v : Validator) (payload : List ℕ) (x y : Data) → (claims_table v payload).holds x → (claims_table v payload).holds y → y ≡ x
unfolding claims_table
one_claims v payload x y (u, can, (tree, read, (w, free, (z, dates, is)))) (u', can', (tree', read', (w', free', (z', dates', is')))) =
    is' ∙ tree_is_determined payload tree tree' read read' ∙ sym is

claimed_single : (v : Validator) (name : List ℕ) (header : Header) (payload : List ℕ) → Single (claimed_table v name header payload)
unfolding claimed_table
claimed_single v name header payload =
    then_single _ _ (named_single of_token (claims_table v payload) (record { same = one_claims v payload })) (λ claims.
    done_single (token name header claims))

judged_single : (signs : Relation) (v : Validator) (text : List ℕ) (x : Reading) (key : NamedKey) → Single (judged_table signs v text x key)
unfolding judged_table
judged_single signs v text x key =
    then_single _ _ (named_single of_jws (signed_table signs key.key x.header.alg text) (record { same = λ u w h k. refl })) (λ _.
    claimed_single v key.name x.header x.payload)

module _ (signs : Relation) (ring : TextMap RingEntry) (policy : Policy) (asked : Request) where
  bearer_single : (text : List ℕ) → Single (bearer_table signs ring policy text)
  unfolding bearer_table signed_token_table
  bearer_single text =
      then_single _ _ (need_single (dots_in text < 4) unbuilt) (λ _.
      then_single _ _ (named_single of_jws (token_table text) (record { same = λ x y h k. one_reading x y text (to_token_reading x text h) (to_token_reading y text k) })) (λ x.
      then_single _ _ (the_single (IsKeyUnder ring x.header.kid) no_key (one_key ring x.header.kid)) (λ key.
      judged_single signs policy.validator text x key)))

  header_single : (text : List ℕ) → Single (header_table signs ring policy asked text)
  unfolding header_table
  header_single text =
      then_single _ _ (named_single of_http (reading_table text) (record { same = λ x y h k. reading_same text x y (to_reading text x h) (to_reading text y k) })) (λ r.
      then_single _ _ (the_single (IsKeyUnder ring (Some r.key_id)) no_key (one_key ring (Some r.key_id))) (λ key.
      then_single _ _ (named_single of_http (checked_table signs key.key key.algorithm (answers_of asked) policy.now policy.leeway r) (record { same = λ x y h k. refl })) (λ _.
      done_single (request key.name key.algorithm r))))

  scheme_single : (scheme : Scheme) → Single (scheme_table signs ring policy asked scheme)
  scheme_single (bearer text) = bearer_single text
  scheme_single (header_text text) = header_single text

  admits_single : (text : List ℕ) → Single (admits_table signs ring policy asked text)
  unfolding admits_table
  admits_single text = then_single _ _ (the_single (IsScheme text) no_scheme (one_scheme text)) (λ scheme. scheme_single scheme)

  pub one_admissible : (text : List ℕ) (a b : Admission) → Admissible signs ring policy asked text a → Admissible signs ring policy asked text b → b ≡ a
  one_admissible text a b h k = (admits_single text).same a b (from_admissible signs ring policy asked text a h) (from_admissible signs ring policy asked text b k)
