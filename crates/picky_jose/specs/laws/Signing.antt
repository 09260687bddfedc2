-- What the rows of a signature that is given say, and that it verifies.
use Rattle.std.specs.Prelude.{◌*◌, ◌<◌}
use Rattle.std.proofs.Common.{◌≡◌, ◌≤◌, ℕ, List, [], ◌++◌, length, Option, Some, refl, sym, ap, subst, ◌∙◌, arith}
use Rattle.picky_contract.specs.laws.Tables.{Exact, the_exact, need_exact, done_exact, then_exact, named_exact}
use Rattle.picky_asn1_bits.specs.Integer.{without_sign_byte}
use Rattle.picky_der.specs.Length.{value_of}
use Rattle.picky_key_der.specs.declared.algorithm.EcCurve.{EcCurve}
use Rattle.picky_key_der.specs.declared.algorithm.EcCurve.TheVariants.{NistP256, NistP384, NistP521}
use Rattle.picky_key_der.specs.declared.ecdsa.EcdsaSignatureValue.{EcdsaSignatureValue}
use Rattle.picky_key_der.specs.declared.public.PublicKeyKind.{PublicKeyKind}
use Rattle.picky_key_der.specs.Ecdsa.{PairValue, pair_value, ecdsa_pair, ecdsa_pair_lawful, padded, ArePadded, halves_of, number_table, fixed_table}
use Rattle.picky_key_der.specs.Public.{field_size}
use Rattle.picky_key_der.specs.laws.Ecdsa.{pairs_come_back}
use Rattle.picky_key.specs.Signatures.{Relation, unsupported, none_given, signature_fault}
use Rattle.picky_key.specs.declared.algorithm.SignatureAlgorithm.{SignatureAlgorithm}
use Rattle.picky_key.specs.declared.algorithm.SignatureAlgorithm.TheVariants.{Ecdsa}
use Rattle.picky_jwk_names.specs.declared.alg.JwsAlg.{JwsAlg}
use Rattle.picky_jose.specs.declared.signature.Asked.{Asked}
use Rattle.picky_jose.specs.declared.signature.Asked.TheVariants.{Nothing, Plain, Pair}
use Rattle.picky_jose.specs.Signatures.{asked_by, AskedHolds, IsVouched, pair_der}
use Rattle.picky_jose.specs.Signing.{Signing, IsPairOf, IsPairGiven, AskedIsGiven, IsGiven, refused, known, given_table, pair_form_table, asked_form_table, given_rows}
use Rattle.picky_jose.specs.Faults.{signature}

-- ---- pairs in DER

-- the one spelling of a pair is its encoding
pub pair_spelled : (der : List ℕ) (p : PairValue) → ecdsa_pair.Spells der p → der ≡ ecdsa_pair.encoding p
unfolding ecdsa_pair
pair_spelled der p h =
    let r : h.fields.front ≡ value_of 2 p.0 = h.fields.is_first.value.bytes_are ∙ ap (value_of 2) h.fields.is_first.stands_for in
    let s : h.fields.back ≡ value_of 2 p.1 = h.fields.is_second.value.bytes_are ∙ ap (value_of 2) h.fields.is_second.stands_for in
    h.value.bytes_are ∙ ap (value_of 48) (h.fields.parts ∙ ap (λ (x : List ℕ). x ++ h.fields.back) r ∙ ap (λ (x : List ℕ). value_of 2 p.0 ++ x) s)

formed : (pair : EcdsaSignatureValue) (der : List ℕ) → IsPairOf der pair → ecdsa_pair.in_form (pair_value pair)
unfolding ecdsa_pair
formed pair der p = (p.r.1, p.s.1)

-- bytes are the DER of one pair at most
pub pair_once : (der : List ℕ) (x y : EcdsaSignatureValue) → IsPairOf der x → IsPairOf der y → y ≡ x
pair_once der x y p q =
    let same : pair_value y ≡ pair_value x = (ecdsa_pair_lawful.readable.prefix_free (pair_value y) (pair_value x) der der [] [] (formed y der q) (formed x der p) q.spelled p.spelled refl).1 in
    λ i. record { r = record { 0 = (same i).0 }; s = record { 0 = (same i).1 } }

-- ---- the rows say one thing

pub refused_exact : {X F : Type 0} (f : F) → Exact (refused {X = X} f)
refused_exact f = record { holds = λ x h. absurd h; one = λ x y h k. absurd h; apart = λ g y r k. k; only = λ g d h k. k ∙ sym h }

pub known_exact : {X F : Type 0} (P : X → Type 0) → Exact (known {F = F} P)
known_exact P = record { holds = λ x h. h.0; one = λ x y h k. h.1 y k; apart = λ g y r k. r; only = λ g d h k. absurd h }

number_exact : (size : ℕ) (octets : List ℕ) → Exact (number_table size octets)
unfolding number_table
number_exact size octets = then_exact _ _ (need_exact _ _) (λ _. done_exact _)

fixed_exact : (size : ℕ) (pair : EcdsaSignatureValue) → Exact (fixed_table size pair)
unfolding fixed_table
fixed_exact size pair = then_exact _ _ (number_exact size pair.r.0) (λ r. then_exact _ _ (number_exact size pair.s.0) (λ s. done_exact (r ++ s)))

pair_form_exact : (size : ℕ) (der : List ℕ) → Exact (pair_form_table size der)
unfolding pair_form_table
pair_form_exact size der = then_exact _ _ (known_exact (IsPairOf der)) (λ pair. named_exact signature_fault _ (fixed_exact size pair))

module _ (sign : Signing) where
  given_exact : (algorithm : SignatureAlgorithm) (m : List ℕ) → Exact (given_table sign algorithm m)
  given_exact algorithm m = the_exact (λ s. sign algorithm m ≡ Some s) none_given

  pub asked_form_exact : (asked : Asked) (m : List ℕ) → Exact (asked_form_table sign asked m)
  unfolding asked_form_table
  asked_form_exact Nothing m = refused_exact unsupported
  asked_form_exact (Plain algorithm) m = given_exact algorithm m
  asked_form_exact (Pair hash curve) m = then_exact _ _ (given_exact (Ecdsa hash) m) (λ der. pair_form_exact (field_size curve) der)

  pub given_rows_exact : (name : JwsAlg) (m : List ℕ) → Exact (given_rows sign name m)
  given_rows_exact name m = named_exact signature _ (asked_form_exact (asked_by name) m)

-- ---- they hold where the signature is given

number_holds : (size : ℕ) (octets bytes : List ℕ) → (number_table size octets).holds bytes → (length (without_sign_byte octets) ≤ size) × (bytes ≡ padded size (without_sign_byte octets))
unfolding number_table
number_holds size octets bytes h = (h.1, h.2)

number_of : (size : ℕ) (octets : List ℕ) → length (without_sign_byte octets) ≤ size → (number_table size octets).holds (padded size (without_sign_byte octets))
unfolding number_table
number_of size octets fits = (tt, fits, refl)

fixed_tells : (size : ℕ) (pair : EcdsaSignatureValue) (bytes : List ℕ) → (fixed_table size pair).holds bytes → ArePadded size pair bytes
unfolding fixed_table
fixed_tells size pair bytes h =
    let r = number_holds size pair.r.0 h.0 h.1 in
    let s = number_holds size pair.s.0 h.2.0 h.2.1 in
    ((r.0, s.0), h.2.2 ∙ ap (λ (x : List ℕ). x ++ h.2.0) r.1 ∙ ap (λ (x : List ℕ). padded size (without_sign_byte pair.r.0) ++ x) s.1)

fixed_holds : (size : ℕ) (pair : EcdsaSignatureValue) (bytes : List ℕ) → ArePadded size pair bytes → (fixed_table size pair).holds bytes
unfolding fixed_table
fixed_holds size pair bytes h =
    (padded size (without_sign_byte pair.r.0), number_of size pair.r.0 h.0.0, (padded size (without_sign_byte pair.s.0), number_of size pair.s.0 h.0.1, h.1))

module _ (sign : Signing) where
  pub form_tells : (asked : Asked) (m s : List ℕ) → (asked_form_table sign asked m).holds s → AskedIsGiven sign asked m s
  unfolding asked_form_table pair_form_table
  form_tells Nothing m s h = h
  form_tells (Plain algorithm) m s h = h
  form_tells (Pair hash curve) m s (der, gave, (pair, is, fixed)) = record { der = der; gave = gave; pair = pair; is = is; padded = fixed_tells (field_size curve) pair s fixed }

  pub form_holds : (asked : Asked) (m s : List ℕ) → AskedIsGiven sign asked m s → (asked_form_table sign asked m).holds s
  unfolding asked_form_table pair_form_table
  form_holds Nothing m s h = h
  form_holds (Plain algorithm) m s h = h
  form_holds (Pair hash curve) m s h = (h.der, h.gave, (h.pair, h.is, fixed_holds (field_size curve) h.pair s h.padded))

-- ---- a signature that is given verifies

-- the fixed form of a pair has twice the size, and stands for the pair's DER
pub pair_verifies : (size : ℕ) (given : Option (List ℕ)) (s : List ℕ) (p : IsPairGiven given size s) → (length s ≡ 2 * size) × (pair_der size s ≡ p.der)
unfolding pair_der
pair_verifies size given s p =
    let back = pairs_come_back size p.pair p.is.r_bytes p.is.s_bytes p.is.r p.is.s p.padded.0 in
    let whole : length s ≡ 2 * size = ap length p.padded.1 ∙ back.0 in
    let halves : halves_of size s ≡ p.pair = ap (halves_of size) p.padded.1 ∙ back.1 in
    let der : ecdsa_pair.encoding (pair_value (halves_of size s)) ≡ p.der = ap (λ (x : EcdsaSignatureValue). ecdsa_pair.encoding (pair_value x)) halves ∙ sym (pair_spelled p.der (pair_value p.pair) p.is.spelled) in
    (whole, der)

-- what signing gives is signed, under a key
abbrev pub Signs : Relation → PublicKeyKind → Signing → Type 0
Signs signs key sign = (a : SignatureAlgorithm) (m s : List ℕ) → sign a m ≡ Some s → signs key a m s

module _ (signs : Relation) (key : PublicKeyKind) (sign : Signing) (signed : Signs signs key sign) where
  asked_verifies : (asked : Asked) (m s : List ℕ) → AskedIsGiven sign asked m s → AskedHolds signs key asked m s
  asked_verifies Nothing m s h = h
  asked_verifies (Plain algorithm) m s h = signed algorithm m s h
  asked_verifies (Pair hash curve) m s h =
      let v = pair_verifies (field_size curve) (sign (Ecdsa hash) m) s h in
      (v.0, subst (λ (d : List ℕ). signs key (Ecdsa hash) m d) (sym v.1) (signed (Ecdsa hash) m h.der h.gave))

  -- a signature that is given under a name is accepted under it
  pub given_verifies : (name : JwsAlg) (m s : List ℕ) → IsGiven sign name m s → IsVouched signs key name m s
  given_verifies name m s h = asked_verifies (asked_by name) m s h

-- ---- a signature that is given has bytes

field_some : (curve : EcCurve) → 0 < field_size curve
field_some NistP256 = omega arith
field_some NistP384 = omega arith
field_some NistP521 = omega arith

module _ (sign : Signing) (some : (a : SignatureAlgorithm) (m s : List ℕ) → sign a m ≡ Some s → 0 < length s) where
  pub given_some : (asked : Asked) (m s : List ℕ) → AskedIsGiven sign asked m s → 0 < length s
  given_some Nothing m s h = absurd h
  given_some (Plain algorithm) m s h = some algorithm m s h
  given_some (Pair hash curve) m s h =
      let twice : length s ≡ 2 * field_size curve = (pair_verifies (field_size curve) (sign (Ecdsa hash) m) s h).0 in
      let one : 0 < field_size curve = field_some curve in
      omega arith
