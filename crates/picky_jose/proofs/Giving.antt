-- What a provider gives, by its laws, and refusals of it as those of a token.
use Rattle.std.specs.Prelude.{◌<◌, ◌&&◌, IsTrue}
use Rattle.std.proofs.Common.{◌≡◌, ℕ, List, [], ◌∷◌, ◌++◌, Bool, true, false, length, Option, Some, Result, Ok, Err, inr, refl, sym, subst, ◌∙◌, arith, true≢false}
use Rattle.std.proofs.lemmas.List.{append-nil}
use Rattle.std.proofs.lemmas.Bool.{ltb-true}
use Rattle.std.proofs.lemmas.Option.{same_Some}
use Rattle.picky_asn1_bits.proofs.Numbers.{positive}
use Rattle.picky_asn1_bits.specs.Integer.{IsShortest}
use Rattle.picky_contract.specs.Refusals.{Meets}
use Rattle.picky_der.specs.declared.fault.DerError.{DerError}
use Rattle.picky_der.specs.Length.{IsBytes, value_of}
use Rattle.picky_der.specs.Form.{whole}
use Rattle.picky_der.specs.laws.Lengths.{TailIsBytes-of, IsBytes-after, IsBytes-front}
use Rattle.picky_der.specs.laws.Headers.{IsBytes-contents}
use Rattle.picky_key_der.specs.declared.ecdsa.EcdsaSignatureValue.{EcdsaSignatureValue}
use Rattle.picky_key_der.specs.declared.error.SignatureError.{SignatureError}
use Rattle.picky_key_der.specs.declared.error.SignatureError.TheVariants.{UnsupportedAlgorithm, BadSignature, Ec, NoSignature, OutOfMemory}
use Rattle.picky_key_der.specs.declared.public.PublicKeyKind.{PublicKeyKind}
use Rattle.picky_key_der.specs.Ecdsa.{PairValue, pair_value, ecdsa_pair, IsNumber, fixed_table}
use Rattle.picky_key_der.specs.Ecdsa as pairs
use Rattle.picky_key.specs.declared.algorithm.SignatureAlgorithm.{SignatureAlgorithm}
use Rattle.picky_key.specs.Signatures.{Relation, own_fault}
use Rattle.picky_key.specs.declared.algorithm.SignatureAlgorithm.TheVariants.{Ecdsa}
use Rattle.picky_key.specs.declared.algorithm.HashAlgorithm.{HashAlgorithm}
use Rattle.picky_key.specs.SignatureForms.{at_least_zero, fits_field, is_number_for, is_pair_for, is_of_algorithm, is_some_byte, is_signature_for}
use Rattle.picky_jose.specs.declared.signature.Asked.{Asked}
use Rattle.picky_jose.specs.Signing.{Signing, IsPairOf, pair_form_table, asked_form_table}
use Rattle.picky_jose.specs.laws.Signing.{Signs, pair_once, asked_form_exact, form_tells, given_some}

-- ---- tests

left : (a b : Bool) → IsTrue (a && b) → IsTrue a
left true b h = refl
left false b h = h

right : (a b : Bool) → IsTrue (a && b) → IsTrue b
right true b h = h
right false b h = absurd (true≢false (sym h))

-- ---- the bytes of a pair's numbers

value_bytes : (tag : ℕ) (c s : List ℕ) → IsBytes s → s ≡ value_of tag c → IsBytes c
value_bytes tag c s bytes is = IsBytes-contents tag c [] (rw (append-nil) (TailIsBytes-of (value_of tag c) (subst IsBytes is bytes)))

pair_bytes : (der : List ℕ) (p : PairValue) → IsBytes der → ecdsa_pair.Spells der p → IsBytes p.0 × IsBytes p.1
unfolding ecdsa_pair
pair_bytes der p bytes h =
    let contents : IsBytes h.contents = value_bytes 48 h.contents der bytes h.value.bytes_are in
    let both : IsBytes (h.fields.front ++ h.fields.back) = subst IsBytes h.fields.parts contents in
    let r = h.fields.is_first in
    let s = h.fields.is_second in
    let r_octets : IsBytes r.octets = value_bytes 2 r.octets h.fields.front (IsBytes-front h.fields.front h.fields.back both) r.value.bytes_are in
    let s_octets : IsBytes s.octets = value_bytes 2 s.octets h.fields.back (IsBytes-after h.fields.front h.fields.back both) s.value.bytes_are in
    (subst IsBytes r.stands_for r_octets, subst IsBytes s.stands_for s_octets)

-- ---- what is given under ECDSA is the DER of a pair

number : (octets : List ℕ) → IsBytes octets → IsTrue (at_least_zero octets) → IsShortest octets → IsNumber octets
number [] bytes h k = absurd k
number (b ∷ bs) bytes h k = ((positive b bs bytes).0 (ltb-true b 128 h), k)

formed : (p : PairValue) → ecdsa_pair.in_form p → IsShortest p.0 × IsShortest p.1
unfolding ecdsa_pair
formed p h = h

pub pair_given : (key : PublicKeyKind) (der : List ℕ) (pair : EcdsaSignatureValue) → IsBytes der → IsTrue (is_pair_for key (whole ecdsa_pair.reading der))
    → whole ecdsa_pair.reading der ≡ Ok (pair_value pair) → ecdsa_pair.in_form (pair_value pair) → ecdsa_pair.Spells der (pair_value pair) → IsPairOf der pair
pair_given key der pair bytes wanted read form spelled =
    let both : IsTrue (is_number_for key pair.r.0 && is_number_for key pair.s.0) = subst (λ (x : Result PairValue DerError). IsTrue (is_pair_for key x)) read wanted in
    let r = left (at_least_zero pair.r.0) (fits_field key pair.r.0) (left (is_number_for key pair.r.0) (is_number_for key pair.s.0) both) in
    let s = left (at_least_zero pair.s.0) (fits_field key pair.s.0) (right (is_number_for key pair.r.0) (is_number_for key pair.s.0) both) in
    let shortest = formed (pair_value pair) form in
    let octets = pair_bytes der (pair_value pair) bytes spelled in
    record {
      r = number pair.r.0 octets.0 r shortest.0;
      s = number pair.s.0 octets.1 s shortest.1;
      r_bytes = octets.0;
      s_bytes = octets.1;
      spelled = spelled;
    }

-- so it is read
pub pair_read : (key : PublicKeyKind) (e : DerError) (read : Result PairValue DerError) → IsTrue (is_pair_for key read) → read ≡ Err e → ⊥
pair_read key e read wanted is = true≢false (sym (subst (λ (x : Result PairValue DerError). IsTrue (is_pair_for key x)) is wanted))

-- ---- refusals

-- the fixed form of a pair, as what is left of the rows
pub form_meets : {X : Type 0} (view : X → List ℕ) (size : ℕ) (der : List ℕ) (pair : EcdsaSignatureValue) (r : Result X SignatureError) → IsPairOf der pair
    → Meets view pairs.signature_fault r (fixed_table size pair) → Meets view own_fault r (pair_form_table size der)
unfolding pair_form_table
form_meets view size der pair (Ok v) is m = (pair, (is, λ y k. pair_once der pair y is k), m)
form_meets view size der pair (Err UnsupportedAlgorithm) is m = inr (pair, (is, λ y k. pair_once der pair y is k), (UnsupportedAlgorithm, m, refl))
form_meets view size der pair (Err BadSignature) is m = inr (pair, (is, λ y k. pair_once der pair y is k), (BadSignature, m, refl))
form_meets view size der pair (Err (Ec expected got)) is m = inr (pair, (is, λ y k. pair_once der pair y is k), (Ec expected got, m, refl))
form_meets view size der pair (Err NoSignature) is m = inr (pair, (is, λ y k. pair_once der pair y is k), (NoSignature, m, refl))
form_meets view size der pair (Err OutOfMemory) is m = tt

-- ---- what signing gives is signed under the public key

pub signs_under : (signs : Relation) (sign : Signing) (public : Option PublicKeyKind) (key : PublicKeyKind) → public ≡ Some key
    → ((a : SignatureAlgorithm) (m s : List ℕ) → sign a m ≡ Some s → (q : PublicKeyKind) × (public ≡ Some q) × signs q a m s) → Signs signs key sign
signs_under signs sign public key is law a m s given =
    let signed = law a m s given in
    let same : signed.0 ≡ key = same_Some signed.0 key (sym signed.1 ∙ is) in
    subst (λ (q : PublicKeyKind). signs q a m s) same signed.2

-- ---- what signing gives can be a signature

-- what the laws of a provider say of one private key: what signing gives is signed under its public key, and can be a signature under it
pub record IsLawful (signs : Relation) (sign : Signing) (public : Option PublicKeyKind) : Type 0 where
  pub signed : (a : SignatureAlgorithm) (m s : List ℕ) → sign a m ≡ Some s → (q : PublicKeyKind) × (public ≡ Some q) × signs q a m s
  pub fits : (a : SignatureAlgorithm) (m s : List ℕ) (q : PublicKeyKind) → sign a m ≡ Some s → public ≡ Some q → IsTrue (is_signature_for a q s)

some_byte : (s : List ℕ) → IsTrue (is_some_byte s) → 0 < length s
some_byte [] h = absurd (true≢false (sym h))
some_byte (b ∷ s) h = omega arith

module _ (signs : Relation) (sign : Signing) (public : Option PublicKeyKind) (law : IsLawful signs sign public) where
  -- under ECDSA it is the DER of a pair
  pub pair_wanted : (hash : HashAlgorithm) (m s : List ℕ) → sign (Ecdsa hash) m ≡ Some s → (key : PublicKeyKind) × IsTrue (is_pair_for key (whole ecdsa_pair.reading s))
  pair_wanted hash m s given =
      let q = law.signed (Ecdsa hash) m s given in
      (q.0, right (is_some_byte s) (is_pair_for q.0 (whole ecdsa_pair.reading s)) (law.fits (Ecdsa hash) m s q.0 given q.1))

  -- it has bytes
  pub signing_some : (a : SignatureAlgorithm) (m s : List ℕ) → sign a m ≡ Some s → 0 < length s
  signing_some a m s given =
      let q = law.signed a m s given in
      some_byte s (left (is_some_byte s) (is_of_algorithm a q.0 s) (law.fits a m s q.0 given q.1))

  -- and so has what a name asks of it
  pub asked_some : (asked : Asked) (m s : List ℕ) → (asked_form_table sign asked m).gives s → 0 < length s
  asked_some asked m s h = given_some sign signing_some asked m s (form_tells sign asked m s ((asked_form_exact sign asked m).holds s h))
