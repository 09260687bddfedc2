-- What the rows of a signature say of a token that was read: it is accepted exactly where the relation
-- holds of the bytes before its last dot, as they stand, and of its signature.
use Rattle.std.specs.Prelude.{◌*◌}
use Rattle.std.proofs.Common.{◌≡◌, ℕ, List, ◌∷◌, length, inl, inr, refl, sym, ◌∙◌, subst, append_assoc}
use Rattle.picky_contract.specs.laws.Cuts.{last-once}
use Rattle.picky_contract.specs.laws.Tables.{Exact, the_exact, need_exact, done_exact, then_exact, named_exact, Leads}
use Rattle.picky_base64.specs.Base64.{B64}
use Rattle.picky_base64.specs.declared.Form.TheVariants.{Url}
use Rattle.picky_base64.specs.laws.Encoding.{once}
use Rattle.picky_key.specs.declared.algorithm.SignatureAlgorithm.TheVariants.{Ecdsa}
use Rattle.picky_key.specs.Signatures.{Relation, unsupported, bad, ec_size}
use Rattle.picky_key_der.specs.declared.public.PublicKeyKind.{PublicKeyKind}
use Rattle.picky_key_der.specs.Public.{field_size}
use Rattle.picky_jwk_names.specs.declared.alg.JwsAlg.{JwsAlg}
use Rattle.picky_jose.specs.declared.signature.Asked.{Asked}
use Rattle.picky_jose.specs.declared.signature.Asked.TheVariants.{Nothing, Plain, Pair}
use Rattle.picky_jose.specs.Token.{Halves, HalvesOf, dot}
use Rattle.picky_jose.specs.Refusals.{Reading, TokenReading, signed_bytes}
use Rattle.picky_jose.specs.Signatures.{asked_by, AskedHolds, IsVouched, pair_der, pair_table, asked_table, signed_table, vouched_rows, EndsWith}
use Rattle.picky_jose.specs.Faults.{JwsFault, signature, invalid_encoding, not_base64}

-- ---- the rows of a signature say one thing

pair_exact : (size : ℕ) (s : List ℕ) → Exact (pair_table size s)
unfolding pair_table
pair_exact size s = then_exact _ _ (need_exact _ (ec_size (2 * size) (length s))) (λ _. done_exact (pair_der size s))

module _ (signs : Relation) (key : PublicKeyKind) where
  asked_exact : (asked : Asked) (m s : List ℕ) → Exact (asked_table signs key asked m s)
  unfolding asked_table
  asked_exact Nothing m s = need_exact ⊥ unsupported
  asked_exact (Plain algorithm) m s = need_exact (signs key algorithm m s) bad
  asked_exact (Pair hash curve) m s = then_exact _ _ (pair_exact (field_size curve) s) (λ pair. need_exact (signs key (Ecdsa hash) m pair) bad)

  pub vouched_exact : (alg : JwsAlg) (m s : List ℕ) → Exact (vouched_rows signs key alg m s)
  vouched_exact alg m s = named_exact signature _ (asked_exact (asked_by alg) m s)

  pub signed_exact : (alg : JwsAlg) (token : List ℕ) → Exact (signed_table signs key alg token)
  unfolding signed_table
  signed_exact alg token =
      then_exact _ _ (the_exact (HalvesOf token) (invalid_encoding token)) (λ h.
      then_exact _ _ (the_exact (B64 Url h.signature) not_base64) (λ s.
      vouched_exact alg h.signed s))

  -- ---- they hold where the relation does

  asked_tells : (asked : Asked) (m s : List ℕ) → (asked_table signs key asked m s).holds tt → AskedHolds signs key asked m s
  unfolding asked_table pair_table
  asked_tells Nothing m s h = h
  asked_tells (Plain algorithm) m s h = h
  asked_tells (Pair hash curve) m s (pair, (u, fits, is), signed) = (fits, subst (λ (p : List ℕ). signs key (Ecdsa hash) m p) is signed)

  asked_gives : (asked : Asked) (m s : List ℕ) → AskedHolds signs key asked m s → (asked_table signs key asked m s).gives tt
  unfolding asked_table pair_table
  asked_gives Nothing m s h = h
  asked_gives (Plain algorithm) m s h = h
  asked_gives (Pair hash curve) m s (fits, signed) = (pair_der (field_size curve) s, (tt, fits, refl), signed)

  pub vouched_tells : (alg : JwsAlg) (m s : List ℕ) → (vouched_rows signs key alg m s).holds tt → IsVouched signs key alg m s
  vouched_tells alg m s h = asked_tells (asked_by alg) m s h

  pub vouched_gives : (alg : JwsAlg) (m s : List ℕ) → IsVouched signs key alg m s → (vouched_rows signs key alg m s).gives tt
  vouched_gives alg m s h = asked_gives (asked_by alg) m s h

-- ---- a token that was read

-- a text is cut at its last dot in one way
pub one_half : (text : List ℕ) (x y : Halves) → HalvesOf text x → HalvesOf text y → y ≡ x
one_half text x y h k =
    let same = last-once dot y.signed y.signature x.signed x.signature (sym k.joined ∙ h.joined) k.last h.last in
    λ i. record { signed = same.0 i; signature = same.1 i }

module _ (x : Reading) (token : List ℕ) where
  halves : TokenReading x token → Halves
  halves r = record { signed = signed_bytes r; signature = r.parts.signature }

  halves_of : (r : TokenReading x token) → HalvesOf token (halves r)
  unfolding halves
  halves_of r = record {
    joined = r.joined.joined ∙ sym (append_assoc r.parts.header (dot ∷ r.parts.payload) (dot ∷ r.parts.signature));
    last = r.joined.last;
    signature = r.joined.signature;
  }

  -- what stands after its last dot spells its signature
  pub ends_with : TokenReading x token → EndsWith token x.signature
  unfolding halves
  ends_with r = record { halves = halves r; cut = halves_of r; spelled = r.signature }

  -- a cut of it at its last dot, and what that spells
  cut_here : (r : TokenReading x token) (h : Halves) → HalvesOf token h → halves r ≡ h
  cut_here r h is = one_half token h (halves r) is (halves_of r)

  spelled_here : (r : TokenReading x token) (h : Halves) (s : List ℕ) → HalvesOf token h → B64 Url h.signature s → x.signature ≡ s
  unfolding halves
  spelled_here r h s is spelled = once Url h.signature s x.signature spelled (subst (λ (k : Halves). B64 Url k.signature x.signature) (cut_here r h is) r.signature)

  -- what is said of such a cut, and of what it spells, is said of the reading
  moved : (P : List ℕ → List ℕ → Type 0) (r : TokenReading x token) (h : Halves) (s : List ℕ) → HalvesOf token h → B64 Url h.signature s → P h.signed s → P (signed_bytes r) x.signature
  unfolding halves
  moved P r h s is spelled p = subst (λ (k : Halves). P k.signed x.signature) (sym (cut_here r h is)) (subst (λ (t : List ℕ). P h.signed t) (sym (spelled_here r h s is spelled)) p)

  module _ (signs : Relation) (key : PublicKeyKind) (alg : JwsAlg) where
    -- the rows accept it, and the relation holds of the reading
    pub signed_tells : (r : TokenReading x token) → (signed_table signs key alg token).holds tt → IsVouched signs key alg (signed_bytes r) x.signature
    unfolding signed_table
    signed_tells r (h, is, (s, spelled, v)) = moved (λ m t. IsVouched signs key alg m t) r h s is spelled (vouched_tells signs key alg h.signed s v)

    pub signed_holds : (r : TokenReading x token) → (signed_table signs key alg token).gives tt → IsVouched signs key alg (signed_bytes r) x.signature
    signed_holds r g = signed_tells r ((signed_exact signs key alg token).holds tt g)

    -- the relation holds of the reading, and the rows accept it
    pub signed_gives : (r : TokenReading x token) → IsVouched signs key alg (signed_bytes r) x.signature → (signed_table signs key alg token).gives tt
    unfolding signed_table halves
    signed_gives r signed = (
      halves r,
      (halves_of r, λ y h. one_half token (halves r) y (halves_of r) h),
      (x.signature, (r.signature, λ s h. once Url r.parts.signature x.signature s r.signature h), vouched_gives signs key alg (signed_bytes r) x.signature signed),
    )

    -- the rows refuse it: that is as those of the reading's signed bytes and signature do
    pub signed_fails : (r : TokenReading x token) (f : JwsFault) → (signed_table signs key alg token).refuses f → (vouched_rows signs key alg (signed_bytes r) x.signature).refuses f
    unfolding signed_table halves
    signed_fails r f (inl none) = absurd (none.1 (halves r) (halves_of r))
    signed_fails r f (inr (h, (is, one), inl none)) = absurd (none.1 x.signature (subst (λ (k : Halves). B64 Url k.signature x.signature) (cut_here r h is) r.signature))
    signed_fails r f (inr (h, (is, one), inr (s, (spelled, only), due))) = moved (λ m t. (vouched_rows signs key alg m t).refuses f) r h s is spelled due

    -- of a token that was read, the rows of its signed bytes and its signature are left
    pub signed_leaves : (r : TokenReading x token) → Leads (signed_table signs key alg token) (vouched_rows signs key alg (signed_bytes r) x.signature)
    signed_leaves r = record {
      gives = λ u g. vouched_gives signs key alg (signed_bytes r) x.signature (signed_holds r g);
      refuses = λ f due. signed_fails r f due;
    }

-- where the signature is decoded, the rows of a signature are left
pub decoded_leads : (signs : Relation) (key : PublicKeyKind) (alg : JwsAlg) (token s : List ℕ) (h : Halves) → EndsWith token s → HalvesOf token h
    → Leads (vouched_rows signs key alg h.signed s) (signed_table signs key alg token)
unfolding signed_table
decoded_leads signs key alg token s h e cut =
    let same : h ≡ e.halves = one_half token e.halves h e.cut cut in
    let spelled : B64 Url h.signature s = subst (λ (k : Halves). B64 Url k.signature s) (sym same) e.spelled in
    record {
      gives = λ u v. (h, (cut, λ y k. one_half token h y cut k), (s, (spelled, λ t k. once Url h.signature s t spelled k), v));
      refuses = λ f r. inr (h, (cut, λ y k. one_half token h y cut k), inr (s, (spelled, λ t k. once Url h.signature s t spelled k), r));
    }
