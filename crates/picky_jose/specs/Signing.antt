-- The signature that a key gives of a message under a name (RFC 7518, sections 3.1 and 3.4; RFC 8037, section 3.1), and why there is none, in order.
use Rattle.std.specs.Prelude.{◌≡◌, ℕ, List, Option, Some}
use Rattle.picky_contract.specs.Refusals.{Table, the, named, ◌>>=◌}
use Rattle.picky_der.specs.Length.{IsBytes}
use Rattle.picky_key_der.specs.Ecdsa.{IsNumber, ArePadded, pair_value, ecdsa_pair, fixed_table}
use Rattle.picky_key_der.specs.Public.{field_size}
use Rattle.picky_key_der.specs.declared.ecdsa.EcdsaSignatureValue.{EcdsaSignatureValue}
use Rattle.picky_key.specs.declared.algorithm.SignatureAlgorithm.{SignatureAlgorithm}
use Rattle.picky_key.specs.declared.algorithm.SignatureAlgorithm.TheVariants.{Ecdsa}
use Rattle.picky_key.specs.Signatures.{SignatureFault, unsupported, none_given, signature_fault}
use Rattle.picky_jwk_names.specs.declared.alg.JwsAlg.{JwsAlg}
use Rattle.picky_jose.specs.declared.signature.Asked.{Asked}
use Rattle.picky_jose.specs.declared.signature.Asked.TheVariants.{Nothing, Plain, Pair}
use Rattle.picky_jose.specs.Signatures.{asked_by}
use Rattle.picky_jose.specs.Faults.{JwsFault, signature}

-- signing with a private key: of an algorithm and a message the signature that it gives, where it gives one
abbrev pub Signing : Type 0
Signing = SignatureAlgorithm → List ℕ → Option (List ℕ)

-- the bytes are the DER of this pair of numbers (RFC 3279, section 2.2.3), which are at least zero, each in its shortest spelling
pub record IsPairOf (der : List ℕ) (pair : EcdsaSignatureValue) : Type 0 where
  pub r : IsNumber pair.r.0
  pub s : IsNumber pair.s.0
  pub r_bytes : IsBytes pair.r.0
  pub s_bytes : IsBytes pair.s.0
  pub spelled : ecdsa_pair.Spells der (pair_value pair)

-- A signature of two numbers is given: what signing gives is the DER of a pair, neither number of which has more bytes than
-- the size, and the signature is the bytes of r and then those of s, each with as many 00 in front as make up the size.
pub record IsPairGiven (given : Option (List ℕ)) (size : ℕ) (s : List ℕ) : Type 0 where
  pub der : List ℕ
  pub gave : given ≡ Some der
  pub pair : EcdsaSignatureValue
  pub is : IsPairOf der pair
  pub padded : ArePadded size pair s

-- the signature is what a name asks, of what signing gives
abbrev pub AskedIsGiven : Signing → Asked → List ℕ → List ℕ → Type 0
AskedIsGiven sign Nothing message s = ⊥
AskedIsGiven sign (Plain algorithm) message s = sign algorithm message ≡ Some s
AskedIsGiven sign (Pair hash curve) message s = IsPairGiven (sign (Ecdsa hash) message) (field_size curve) s

-- the signature is given under a name: it is what signing gives of the message under the name's algorithm, as it stands, or
-- for ES256, ES384, ES512 the two numbers of the pair whose DER that is, each in 32, 48, 66 bytes
abbrev pub IsGiven : Signing → JwsAlg → List ℕ → List ℕ → Type 0
IsGiven sign name message s = AskedIsGiven sign (asked_by name) message s

-- ---- in order

-- the refusal is due, whatever the value
abbrev pub refused : {X F : Type 0} → F → Table X F
refused f = record { holds = λ _. ⊥; gives = λ _. ⊥; refuses = λ g. g ≡ f }

-- P holds of one value: there is one by a law, so no refusal is due
abbrev pub known : {X F : Type 0} → (X → Type 0) → Table X F
known {X = X} P = record {
  holds = P;
  gives = λ x. P x × ((y : X) → P y → y ≡ x);
  refuses = λ _. ⊥;
}

-- what signing gives
abbrev pub given_table : Signing → SignatureAlgorithm → List ℕ → Table (List ℕ) SignatureFault
given_table sign algorithm message = the (λ s. sign algorithm message ≡ Some s) none_given

-- the two numbers of the pair whose DER was given, each in the size: r fits, then s fits. By the laws of providers what is
-- given under ECDSA is the DER of a pair.
unfoldable pub pair_form_table : ℕ → List ℕ → Table (List ℕ) SignatureFault
pair_form_table size der = do
  pair ← known (IsPairOf der)
  named signature_fault (fixed_table size pair)

-- what a name asks, of what signing gives
unfoldable pub asked_form_table : Signing → Asked → List ℕ → Table (List ℕ) SignatureFault
asked_form_table sign Nothing message = refused unsupported
asked_form_table sign (Plain algorithm) message = given_table sign algorithm message
asked_form_table sign (Pair hash curve) message = do
  der ← given_table sign (Ecdsa hash) message
  pair_form_table (field_size curve) der

-- what a name asks, of what signing gives, with its refusals as those of a token
abbrev pub given_rows : Signing → JwsAlg → List ℕ → Table (List ℕ) JwsFault
given_rows sign name message = named signature (asked_form_table sign (asked_by name) message)
